-- What the code makes of boards and flags: arrays made element by element (`array::from_fn`), a bit on the wire, and the loop of a round.
use Prim.Native.Nat.{ℕ, zero, suc, ◌+◌, ◌-◌, ◌*◌, ◌^◌, ◌<◌, ◌≤◌}
use mathlib.Core.Path.{◌≡◌, refl, sym, ap, ◌∙◌}
use mathlib.Core.Bool.{Bool, true, false, cond, not, ◌&&◌, ◌||◌, and-true, and-false}
use mathlib.Core.List.{List, [], ◌∷◌, ◌++◌, map, zip_with}
use native.Mathlib.Nat.{not-suc-le-zero, pow-suc, le_of_suc-le-suc, suc_inj}
use native.Mathlib.Omega.{arith}
use borrow.Author.Tests.{lt-ltb, le-ltb, le-leb, eqb-true, eqb-false}
use denote.Param.Members.{Mut, Called}
use lib.Dec.{eqb, ltb, leb-suc-suc}
use lib.ListN.{length, take, set, get_or, length-set, replicate, get_or-replicate, get_or-map, length-append, length-take, length-map, length-replicate}
use lib.Pow.{pow_mono}
use mir.Val.{bool_byte}
use Rattle.std.specs.Array.{IsFromFnResult, IsFromFnResultFrom, IsMapOf}
use Rattle.std.specs.List.{list_any, zip}
use Rattle.std.proofs.lemmas.List.{same_lists, ext_get_or, set-get_or}
use Rattle.lists.proofs.Zips.{zip_at, zip_long, zipping, zip_turn, zip_done}
use Rattle.boards.specs.declared.Board.{Board}
use Rattle.boards.specs.Wire.{waits, waiting, waiting_first, anyone, board_of, sent, sends_zero, wire_bit, keeps_in, stay_in, hear}

-- ---- an array made by a closure that changes nothing it took in

module _ {F B : Type 0} (g : Mut F (ℕ × Unit {0}) B) (f : F) (ys xs : List B) where
  -- a call at a place gives the list's element there, and leaves the closure as it was
  abbrev pub GivesAt : ℕ → Type 0
  GivesAt i = (y : B) (q : F) → Called g f (i, tt) y q → (q ≡ f) × ((d : B) → y ≡ get_or xs i d)

  -- the calls from i on
  made_from : (n i : ℕ) → IsFromFnResultFrom g f ys i n → ((k : ℕ) → k < i + n → GivesAt k)
      → (k : ℕ) (d : B) → i ≤ k → k < i + n → get_or ys k d ≡ get_or xs k d
  made_from zero i m s k d p q = absurd (omega arith)
  made_from (suc n) i m s k d p q =
      let here = s i (omega arith) m.1 m.0 m.3 in
      let later = made_from n (i + 1) (rw here.0 at m.4) (λ j b. s j (omega arith)) k d in
      go (m.2.1 d ∙ here.1 d) later (eqb k i) refl
    where
      go : get_or ys i d ≡ get_or xs i d → (i + 1 ≤ k → k < i + 1 + n → get_or ys k d ≡ get_or xs k d)
          → (b : Bool) → eqb k i ≡ b → get_or ys k d ≡ get_or xs k d
      go t l true e = rw (eqb-true k i e) t
      go t l false e = l (omega (arith, eqb-false k i e)) (omega arith)

  -- so it is the list
  pub made : (n : ℕ) → IsFromFnResult g f ys n → length xs ≡ n → ((k : ℕ) → k < n → GivesAt k) → ys ≡ xs
  made n m e s = same_lists ys xs (m.long ∙ sym e) (λ k d h. made_from n 0 m.each (λ j b. s j (omega arith)) k d (omega arith) (omega (arith, m.long)))

-- an array made of another (`map`) by a closure that took in nothing: its elements are h of the other's
pub mapped : {F A B : Type 0} (g : Mut F (A × Unit {0}) B) (f : F) (xs : List A) (ys : List B) (n : ℕ) (h : A → B) (d : A) → IsMapOf g f xs ys n
    → length xs ≡ n → ((p q : F) (x : A) (y : B) → Called g p (x, tt) y q → y ≡ h x) → ys ≡ map h xs
mapped g f xs ys n h d m e s =
    ext_get_or (h d) ys (map h xs) (m.long ∙ sym e ∙ sym (length-map xs h))
    (λ i b. let k = m.at i d (h d) (omega (arith, m.long)) in s k.0 k.1 _ _ k.2 ∙ sym (get_or-map h xs i d))

-- ---- its elements

-- of two lists zipped, by those at its place
pub zipped : {A B C : Type 0} (g : A → B → C) (xs : List A) (ys : List B) (i n : ℕ) (x : A) (y : B) (z w d : C) → length xs ≡ n → length ys ≡ n
    → i < n → w ≡ g (get_or xs i x) (get_or ys i y) → z ≡ w → z ≡ get_or (zip_with g xs ys) i d
zipped g xs ys i n x y z w d p q h e k = k ∙ e ∙ sym (zip_at g xs ys i x y d (omega arith) (omega arith))

-- who answers: a flag for each place
pub waiting_long : (n : ℕ) (bs : List Board) → length bs ≡ 32 → length (waiting_first n bs) ≡ 32
waiting_long n bs e = rw (length-append, length-map, length-take, length-replicate, e) (omega arith)

-- one flag, with as many places as boards: below n the board's own, from n on none
flag_at : (n : ℕ) (bs : List Board) (i : ℕ) (d : Board) (f : Bool) → i < length bs
    → get_or (waiting (take n bs) ++ replicate (length bs - n) false) i f ≡ (ltb i n && waits (get_or bs i d))
flag_at n [] i d f h = absurd (not-suc-le-zero h)
flag_at zero (b ∷ bs) i d f h =
    let all : length (b ∷ bs) - 0 ≡ length (b ∷ bs) = omega arith in
    rw (le-ltb i 0 (omega arith), all) (get_or-replicate (length (b ∷ bs)) i false f h)
flag_at (suc n) (b ∷ bs) zero d f h = rw (lt-ltb 0 (suc n) (omega arith))
flag_at (suc n) (b ∷ bs) (suc i) d f h =
    let rest : length (b ∷ bs) - suc n ≡ length bs - n = omega arith in
    let less : ltb (suc i) (suc n) ≡ ltb i n = leb-suc-suc (suc i) n in
    rw (rest, less) (flag_at n bs i d f (le_of_suc-le-suc h))

-- the flag at a place
pub waiting_at : (n : ℕ) (bs : List Board) (i : ℕ) (b : Board) (f z : Bool) → length bs ≡ 32 → i < 32
    → z ≡ (ltb i n && waits (get_or bs i b)) → z ≡ get_or (waiting_first n bs) i f
waiting_at n bs i b f z e h p = p ∙ sym (rw e at (flag_at n bs i b f (rw e h)))

-- ---- one bit

-- whether any board sends 0, by its identity and its flag
any_zip : (k : ℕ) (ids : List ℕ) (fs : List Bool)
    → list_any (λ p. sends_zero k (board_of p.0) p.1) (zip ids fs) ≡ anyone (zip_with (sends_zero k) (map board_of ids) fs)
unfolding zip_with
any_zip k [] fs = refl
any_zip k (id ∷ ids) [] = refl
any_zip k (id ∷ ids) (f ∷ fs) = ap (λ (r : Bool). sends_zero k (board_of id) f || r) (any_zip k ids fs)

-- the bit is 0 then, and else 1
pub pulled : (k : ℕ) (ids : List ℕ) (fs : List Bool) (r : Bool) (w : ℕ) → r ≡ list_any (λ p. sends_zero k (board_of p.0) p.1) (zip ids fs)
    → w ≡ bool_byte (not r) → w ≡ wire_bit k (map board_of ids) fs
pulled k ids fs r w e p = p ∙ rw (e, any_zip k ids fs) (go (anyone (zip_with (sends_zero k) (map board_of ids) fs)))
  where
    go : (b : Bool) → bool_byte (not b) ≡ cond b 0 1
    go true = refl
    go false = refl

bit_small : (k : ℕ) (bs : List Board) (fs : List Bool) → wire_bit k bs fs < 2
bit_small k bs fs = go (anyone (zip_with (sends_zero k) bs fs))
  where
    go : (b : Bool) → cond b 0 1 < 2
    go true = omega arith
    go false = omega arith

-- ---- who stays in

-- at a 0: the flags below i are settled, and those from i on are as they came
pub record Settled (k : ℕ) (ids : List ℕ) (fs kept : List Bool) (i : ℕ) : Type 0 where
  pub long : length kept ≡ length ids
  pub same : zipping (keeps_in k 0) (map board_of ids) kept i ≡ stay_in k 0 (map board_of ids) fs

-- before the first
pub settled_start : {k : ℕ} {ids : List ℕ} {fs : List Bool} → length fs ≡ length ids → Settled k ids fs fs 0
settled_start e = record { long = e; same = refl }

module _ {k : ℕ} {ids : List ℕ} {fs kept : List Bool} {i : ℕ} (v : Settled k ids fs kept i) where
  -- the next is settled
  settled_turn : i < length ids → (d : ℕ) (now : Bool) → now ≡ keeps_in k 0 (board_of (get_or ids i d)) (get_or kept i false)
      → Settled k ids fs (set kept i now) (i + 1)
  settled_turn h d now e =
      let turn = zip_turn (keeps_in k 0) (map board_of ids) kept i (board_of d) false (rw (length-map ids board_of) h) (omega (arith, v.long)) in
      record { long = length-set kept i now ∙ v.long; same = rw e (rw (get_or-map board_of ids i d) at turn ∙ v.same) }

  -- one that sent 1 leaves
  pub settled_leaves : i < length ids → (d : ℕ) → sent k (board_of (get_or ids i d)) ≡ 1 → Settled k ids fs (set kept i false) (i + 1)
  settled_leaves h d e = settled_turn h d false (rw e (sym (and-false (get_or kept i false))))

  -- one that sent 0 stays as it was
  pub settled_stays : i < length ids → (d : ℕ) → (sent k (board_of (get_or ids i d)) ≡ 1 → ⊥) → Settled k ids fs kept (i + 1)
  settled_stays h d e =
      let none : sent k (board_of (get_or ids i d)) ≡ 0 = omega (arith, e) in
      rw (set-get_or kept i false) at (settled_turn h d (get_or kept i false) (rw none (sym (and-true (get_or kept i false)))))

  -- all are
  pub settled_ended : length ids ≤ i → kept ≡ stay_in k 0 (map board_of ids) fs
  settled_ended h = sym (zip_done (keeps_in k 0) (map board_of ids) kept i (rw (length-map ids board_of) h) (omega (arith, v.long))) ∙ v.same

-- at a 1 nobody leaves
none_leaves : (k : ℕ) (bs : List Board) (fs : List Bool) → length bs ≡ length fs → stay_in k 1 bs fs ≡ fs
unfolding zip_with
none_leaves k [] [] e = refl
none_leaves k [] (f ∷ fs) e = absurd (omega arith)
none_leaves k (b ∷ bs) [] e = refl
none_leaves k (b ∷ bs) (f ∷ fs) e = rw (le-leb (sent k b) 1 (omega arith), and-true f, none_leaves k bs fs (suc_inj e))

-- ---- a round

-- one bit
hear_turn : (k : ℕ) (bs : List Board) (fs : List Bool) (h : ℕ) → 0 < k
    → hear k bs fs h ≡ hear (k - 1) bs (stay_in (k - 1) (wire_bit (k - 1) bs fs) bs fs) (h * 2 + wire_bit (k - 1) bs fs)
unfolding hear
hear_turn zero bs fs h p = absurd (not-suc-le-zero p)
hear_turn (suc k) bs fs h p = let e : suc k - 1 ≡ k = omega arith in rw e

-- after the last
hear_end : (k : ℕ) (bs : List Board) (fs : List Bool) (h : ℕ) → k ≤ 0 → hear k bs fs h ≡ record { identity = h; still = fs }
unfolding hear
hear_end zero bs fs h p = refl
hear_end (suc k) bs fs h p = absurd (not-suc-le-zero p)

-- with k of n bits to come: what was heard and who is in lead to what the whole round hears
pub record Hearing (n : ℕ) (bs : List Board) (fs kept : List Bool) (heard k : ℕ) : Type 0 where
  pub flags : length bs ≡ length kept
  pub small : heard < 2 ^ (n - k)
  pub same : hear k bs kept heard ≡ hear n bs fs 0

module _ {n : ℕ} {bs : List Board} {fs : List Bool} where
  -- before the first bit
  pub hearing_start : length bs ≡ length fs → Hearing n bs fs fs 0 n
  hearing_start e = let none : n - n ≡ 0 = omega arith in record { flags = e; small = rw none (omega arith); same = refl }

module _ {n : ℕ} {bs : List Board} {fs kept : List Bool} {heard k seen : ℕ} (v : Hearing n bs fs kept heard k) (some : 0 < k) (inside : k ≤ n)
    (bit : seen ≡ wire_bit (k - 1) bs kept) where
  one_more : heard * 2 + seen < 2 ^ (n - (k - 1))
  one_more =
      let e : n - (k - 1) ≡ suc (n - k) = omega arith in
      rw (e, pow-suc 2 (n - k)) (omega (arith, v.small, bit_small (k - 1) bs kept))

  -- all stay in at a bit that is not 0
  pub hearing_stay : (seen ≡ 0 → ⊥) → kept ≡ stay_in (k - 1) seen bs kept
  hearing_stay h =
      let one : seen ≡ 1 = omega (arith, bit, bit_small (k - 1) bs kept, h) in
      rw one (sym (none_leaves (k - 1) bs kept v.flags))

  -- there is room for one bit more
  pub hearing_room : heard * 2 + seen < 2 ^ n
  hearing_room = omega (arith, one_more, pow_mono {i = n - (k - 1)} {j = n} (omega arith))

  -- one bit
  pub hearing_turn : {next : List Bool} → next ≡ stay_in (k - 1) seen bs kept → Hearing n bs fs next (heard * 2 + seen) (k - 1)
  hearing_turn stay = record { flags = rw stay (v.flags ∙ sym (zip_long (keeps_in (k - 1) seen) bs kept v.flags)); small = one_more; same = rw (stay, bit) (sym (hear_turn k bs kept heard some) ∙ v.same) }

module _ {n : ℕ} {bs : List Board} {fs kept : List Bool} {heard k : ℕ} where
  -- after the last
  pub hearing_ended : Hearing n bs fs kept heard k → k ≤ 0 → record { identity = heard; still = kept } ≡ hear n bs fs 0
  hearing_ended v p = sym (hear_end k bs kept heard p) ∙ v.same

-- ---- a round asks for identities alone

-- a flag that is made of a board's identity and its flag
zip_identities : (g : Board → Bool → Bool) → ((b : Board) (f : Bool) → g (board_of b.identity) f ≡ g b f) → (bs : List Board) (fs : List Bool)
    → zip_with g (map board_of (map (λ b. b.identity) bs)) fs ≡ zip_with g bs fs
unfolding zip_with
zip_identities g e [] fs = refl
zip_identities g e (b ∷ bs) [] = refl
zip_identities g e (b ∷ bs) (f ∷ fs) = rw (e b f, zip_identities g e bs fs)

-- so the round of the numbers is the round of the boards
pub hear_identities : (k : ℕ) (bs : List Board) (fs : List Bool) (h : ℕ) → hear k (map board_of (map (λ b. b.identity) bs)) fs h ≡ hear k bs fs h
unfolding hear
hear_identities zero bs fs h = refl
hear_identities (suc k) bs fs h =
    let seen = wire_bit k bs fs in
    rw (zip_identities (sends_zero k) (λ b f. refl) bs fs, zip_identities (keeps_in k seen) (λ b f. refl) bs fs)
    (hear_identities k bs (stay_in k seen bs fs) (h * 2 + seen))
