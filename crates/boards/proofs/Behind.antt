-- Boards that nobody looks at, with no flag raised, stand behind those in play and change nothing.
use mathlib.Core.Path.{◌≡◌, refl, sym, ap, ◌∙◌}
use mathlib.Core.Bool.{Bool, false, cond, ◌||◌}
use mathlib.Core.List.{List, [], ◌∷◌, ◌++◌, zip_with}
use Prim.Native.Nat.{ℕ, zero, suc, ◌+◌, ◌-◌, ◌*◌}
use native.Mathlib.Nat.{suc_inj}
use native.Mathlib.Omega.{arith}
use lib.ListN.{length, replicate, length-append}
use lib.Seq.{take_at}
use Rattle.lists.proofs.Zips.{zip_long}
use Rattle.boards.specs.declared.Board.{Board}
use Rattle.boards.specs.Wire.{anyone, waiting, sends_zero, wire_bit, keeps_in, stay_in, hear, takes, after_byte, waiting_first}

-- ---- flags

-- nobody behind is in
pub anyone_behind : (fs : List Bool) (n : ℕ) → anyone (fs ++ replicate n false) ≡ anyone fs
anyone_behind [] zero = refl
anyone_behind [] (suc n) = anyone_behind [] n
anyone_behind (f ∷ fs) n = ap (λ (g : Bool). f || g) (anyone_behind fs n)

-- a flag that is made of a board and its flag stays down where it was
module _ (g : Board → Bool → Bool) (down : (b : Board) → g b false ≡ false) where
  flags_down : (behind : List Board) → zip_with g behind (replicate (length behind) false) ≡ replicate (length behind) false
  unfolding zip_with
  flags_down [] = refl
  flags_down (b ∷ behind) = rw (down b, flags_down behind)

  -- and the other flags are made as without them
  flags_behind : (bs behind : List Board) (fs : List Bool) → length fs ≡ length bs
      → zip_with g (bs ++ behind) (fs ++ replicate (length behind) false) ≡ zip_with g bs fs ++ replicate (length behind) false
  unfolding zip_with
  flags_behind [] behind [] e = flags_down behind
  flags_behind [] behind (f ∷ fs) e = absurd (omega arith)
  flags_behind (b ∷ bs) behind [] e = absurd (omega arith)
  flags_behind (b ∷ bs) behind (f ∷ fs) e = ap (λ (l : List Bool). g b f ∷ l) (flags_behind bs behind fs (suc_inj e))

-- ---- the round

-- one bit leaves a flag for each board
stay_long : (k seen : ℕ) (bs : List Board) (fs : List Bool) → length fs ≡ length bs → length (stay_in k seen bs fs) ≡ length bs
stay_long k seen bs fs e = zip_long (keeps_in k seen) bs fs (sym e) ∙ e

-- they pull no bit down
wire_behind : (k : ℕ) (bs behind : List Board) (fs : List Bool) → length fs ≡ length bs
    → wire_bit k (bs ++ behind) (fs ++ replicate (length behind) false) ≡ wire_bit k bs fs
wire_behind k bs behind fs e =
    ap (λ (f : Bool). cond f 0 1)
    (ap anyone (flags_behind (sends_zero k) (λ b. refl) bs behind fs e) ∙ anyone_behind (zip_with (sends_zero k) bs fs) (length behind))

-- a round ends with a flag for each board
pub still_long : (k : ℕ) (bs : List Board) (fs : List Bool) (h : ℕ) → length fs ≡ length bs → length (hear k bs fs h).still ≡ length bs
unfolding hear
still_long zero bs fs h e = e
still_long (suc k) bs fs h e =
    still_long k bs (stay_in k (wire_bit k bs fs) bs fs) (h * 2 + wire_bit k bs fs) (stay_long k (wire_bit k bs fs) bs fs e)

-- the wire hears what it hears without them
pub hear_behind : (k : ℕ) (bs behind : List Board) (fs : List Bool) (h : ℕ) → length fs ≡ length bs
    → hear k (bs ++ behind) (fs ++ replicate (length behind) false) h
    ≡ record { identity = (hear k bs fs h).identity; still = (hear k bs fs h).still ++ replicate (length behind) false }
unfolding hear
hear_behind zero bs behind fs h e = refl
hear_behind (suc k) bs behind fs h e =
    rw (wire_behind k bs behind fs e, flags_behind (keeps_in k (wire_bit k bs fs)) (λ b. refl) bs behind fs e)
    (hear_behind k bs behind (stay_in k (wire_bit k bs fs) bs fs) (h * 2 + wire_bit k bs fs) (stay_long k (wire_bit k bs fs) bs fs e))

-- ---- the address byte

-- a board that is out takes nothing
out_behind : (byte : ℕ) (behind : List Board) → zip_with (takes byte) (replicate (length behind) false) behind ≡ behind
unfolding zip_with
out_behind byte [] = refl
out_behind byte (b ∷ behind) = ap (λ (l : List Board). b ∷ l) (out_behind byte behind)

-- they stay as they are
pub after_behind : (byte : ℕ) (fs : List Bool) (bs behind : List Board) → length fs ≡ length bs
    → after_byte byte (fs ++ replicate (length behind) false) (bs ++ behind) ≡ after_byte byte fs bs ++ behind
unfolding after_byte zip_with
after_behind byte [] [] behind e = out_behind byte behind
after_behind byte (f ∷ fs) [] behind e = absurd (omega arith)
after_behind byte [] (b ∷ bs) behind e = absurd (omega arith)
after_behind byte (f ∷ fs) (b ∷ bs) behind e = ap (λ (l : List Board). takes byte f b ∷ l) (after_behind byte fs bs behind (suc_inj e))

-- an address byte makes no board more or less
pub after_long : (byte : ℕ) (fs : List Bool) (bs : List Board) → length fs ≡ length bs → length (after_byte byte fs bs) ≡ length bs
unfolding after_byte
after_long byte fs bs e = zip_long (takes byte) fs bs e

-- ---- who answers

-- of 32 places the first n hold boards: only those among them
pub waiting-first : (n : ℕ) (bs behind : List Board) → length bs ≡ n → length (bs ++ behind) ≡ 32
    → waiting_first n (bs ++ behind) ≡ waiting bs ++ replicate (length behind) false
waiting-first n bs behind e whole =
    let rest : 32 - n ≡ length behind = omega (arith, length-append bs behind) in
    rw (take_at bs behind n e, rest)
