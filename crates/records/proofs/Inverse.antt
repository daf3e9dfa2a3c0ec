-- What reads has a layout, and the layout gives the cells again: what cells that read look like, from each point on.
use Prim.Native.Nat.{ℕ, zero, suc, ◌+◌, ◌*◌, ◌%◌, ◌≤◌, ◌<◌}
use mathlib.Core.Path.{◌≡◌, refl, sym, ap, ◌∙◌, subst, subst₂}
use mathlib.Core.Bool.{Bool, true, false, cond, not, ◌&&◌, and-false, true≢false}
use mathlib.Core.List.{List, [], ◌∷◌, ◌++◌}
use native.Mathlib.Omega.{arith}
use native.Mathlib.Nat.{zero-add, le_refl}
use lib.Dec.{eqb, ltb, leb, eqb-suc-zero}
use lib.ListN.{length, drop}
use borrow.Author.Tests.{eqb-true, eqb-false, ltb-true, leb-true, le-leb}
use Rattle.lists.specs.Numbers.{numbers}
use Rattle.lists.proofs.Bools.{both, cond_by}
use Rattle.parity.specs.Parity.{odd_ones}
use Rattle.parity.specs.Cells.{is_identity, data_cell, answer_cell, identity_cell, write_byte, start_cell, repeated_start_cell, stop_cell, broadcast_write, broadcast_read, hot_join, assign_cell, reset_all_cell, set_from_static_cell, move_cell, silence_cell, allow_cell, joining_cell}
use Rattle.readings.specs.declared.Joining.{Joining}
use Rattle.readings.specs.declared.Joining.TheVariants.{Refused, Answered}
use Rattle.readings.specs.declared.Joining.TheVariants as joinings
use Rattle.readings.specs.declared.Command.{Command}
use Rattle.readings.specs.declared.Command.TheVariants.{Assign, ResetAll, SetFromStatic, Move, Silence, Allow}
use Rattle.readings.specs.declared.Command.TheVariants as commands
use Rattle.readings.specs.declared.Reading.{Reading}
use Rattle.readings.specs.Readings.{may_follow, bare, directed, assigned}
use Rattle.readings.specs.Layouts.{offer_cells, offers_cells, rounds_end, direct_cells, cells_of, is_bare, is_directed, offers_right, is_assigned, has_layout}
use Rattle.reader.specs.Read.{Answer}
use Rattle.reader.specs.Points.{Point, Next, nowhere, to, over, start, opening, again, reopening, event, header, new_address, round, offer, behind, ending, next, commanded, command_of, is_write_byte, is_new_address, is_offered, byte_of, ninth_of, address_in, answered_in}
use Rattle.reader.specs.Read.{says, breaks, stopped, lead, from, cell_at, identity_byte, ten_of, tens_of, offers_of}
use Rattle.reader.proofs.Bytes.{tens_length}
use Rattle.lists.specs.Bits.{are_bytes}

-- ---- cells made again from what is read of them

-- an identity byte
identity_again : (x : ℕ) → is_identity x ≡ true → identity_cell (identity_byte x) ≡ x
unfolding is_identity
identity_again x h = let t = both (leb 1024 x) (leb x 1279) h in omega (arith, leb-true 1024 x t.0, leb-true x 1279 t.1)

-- a byte and its ninth bit
byte_again : (x b : ℕ) → x < 512 → b ≡ byte_of x → answer_cell b (answered_in x) ≡ x
byte_again x b h e = go (eqb (ninth_of x) 0) refl
  where
    go : (t : Bool) → eqb (ninth_of x) 0 ≡ t → answer_cell b t ≡ x
    go true f = omega (arith, eqb-true (ninth_of x) 0 f)
    go false f = omega (arith, eqb-false (ninth_of x) 0 f)

-- an offered address byte, whose ones are odd
offered_again : (x : ℕ) → is_offered x ≡ true → (answer_cell (byte_of x) (answered_in x) ≡ x) × (odd_ones (byte_of x) ≡ true)
unfolding is_offered
offered_again x h = let t = both (ltb x 512) (odd_ones (byte_of x)) h in (byte_again x (byte_of x) (ltb-true x 512 t.0) refl, t.1)

-- a byte with a 0 below its address is that address's
write_byte_lem : (x : ℕ) → is_write_byte x ≡ true → (x < 512) × (write_byte (address_in x) ≡ byte_of x)
unfolding is_write_byte
write_byte_lem x h =
    let t = both (ltb x 512) (eqb (byte_of x % 2) 0) h in
    let e : byte_of x % 2 ≡ 0 = eqb-true (byte_of x % 2) 0 t.1 in
    (ltb-true x 512 t.0, omega arith)

-- a header that writes
header_again : (x : ℕ) → is_write_byte x ≡ true → answer_cell (write_byte (address_in x)) (answered_in x) ≡ x
header_again x h = let t = write_byte_lem x h in byte_again x (write_byte (address_in x)) t.0 t.1

-- a new address
new_again : (x : ℕ) → is_new_address x ≡ true → data_cell (write_byte (address_in x)) ≡ x
unfolding is_new_address
new_again x h =
    let t = both (is_write_byte x) (eqb (data_cell (byte_of x)) x) h in
    ap data_cell (write_byte_lem x t.0).1 ∙ eqb-true (data_cell (byte_of x)) x t.1

-- seven bits
address_small : (x : ℕ) → leb (address_in x) 127 ≡ true
address_small x = le-leb (address_in x) 127 (omega arith)

-- ---- the bytes of the offers

-- eight bits
low_byte : (x : ℕ) → leb (x % 256) 255 ≡ true
low_byte x = le-leb (x % 256) 255 (omega arith)

-- one bit
low_bit : (m x : ℕ) → 1 ≤ m → leb (x % 2) m ≡ true
low_bit m x h = le-leb (x % 2) m (omega arith)

-- whatever the cells are, the bytes taken from them are of eight bits
tens_bytes : (n : ℕ) (cells : List ℕ) → are_bytes (tens_of n cells) ≡ true
unfolding tens_of ten_of numbers
tens_bytes zero cells = refl
tens_bytes (suc n) cells = simp (low_byte, low_bit 255 (cell_at cells 9) (omega arith)) (tens_bytes n (drop 11 cells))

-- ---- cells that read

-- the cells behind one that leads there: what they say, wherever they stand
data Leads : Next → List ℕ → Reading → Type 0 where
  on : {p : Point} {l : List ℕ} {r : Reading} (at : ℕ) → from p l at ≡ says r → Leads (to p) l r
  out : {r₀ r : Reading} {l : List ℕ} → l ≡ [] → r₀ ≡ r → Leads (over r₀) l r

-- a refusal says nothing
pub never : {place : ℕ} {r : Reading} → breaks place ≡ says r → ⊥
never e = omega (arith, ap (λ (a : Answer). a.refusal) e)

-- nothing is read behind a cell that leads nowhere
lost : {l : List ℕ} {r : Reading} → Leads nowhere l r → ⊥
lost = elim [ ]

-- nothing stands behind STOP
ended : {r₀ r : Reading} {l : List ℕ} → Leads (over r₀) l r → (l ≡ []) × (r₀ ≡ r)
ended (out e f) = (e, f)

-- what reads at STOP ends there
stop_leads : (l : List ℕ) (at : ℕ) (r₀ r : Reading) → stopped r₀ l at ≡ says r → Leads (over r₀) l r
unfolding stopped
stop_leads [] at r₀ r e = out refl (ap (λ (a : Answer). a.reading) e)
stop_leads (x ∷ l) at r₀ r e = absurd (never e)

-- what reads goes where its first cell leads
leads : (n : Next) (l : List ℕ) (at : ℕ) (r : Reading)
    → lead n at (λ p. from p l (at + 1)) (λ r₀. stopped r₀ l (at + 1)) ≡ says r → Leads n l r
leads nowhere l at r e = absurd (never e)
leads (to p) l at r e = on (at + 1) e
leads (over r₀) l at r e = stop_leads l (at + 1) r₀ r e

-- there is a cell at each point
cell : {G : Type 0} {p : Point} {xs : List ℕ} {r : Reading} → Leads (to p) xs r
    → ((x : ℕ) (l : List ℕ) → xs ≡ x ∷ l → Leads (next p x) l r → G) → G
unfolding from
cell {G} {p} {xs} {r} (on at e) k = go xs e k
  where
    go : (ys : List ℕ) → from p ys at ≡ says r → ((x : ℕ) (l : List ℕ) → ys ≡ x ∷ l → Leads (next p x) l r → G) → G
    go [] f g = absurd (never f)
    go (x ∷ l) f g = g x l refl (leads (next p x) l at r f)

-- by a test of the cell
pick : {G : Type 0} {l : List ℕ} {r : Reading} (b : Bool) (a c : Next) → Leads (cond b a c) l r
    → (b ≡ true → Leads a l r → G) → (b ≡ false → Leads c l r → G) → G
pick true a c h f g = f refl h
pick false a c h f g = g refl h

-- by a cell
is : {G : Type 0} {l : List ℕ} {r : Reading} (x k : ℕ) (a c : Next) → Leads (cond (eqb x k) a c) l r
    → (x ≡ k → Leads a l r → G) → (Leads c l r → G) → G
is x k a c h f g = pick (eqb x k) a c h (λ e. f (eqb-true x k e)) (λ e. g)

-- the only test that leads on
only : {l : List ℕ} {r : Reading} (b : Bool) (a : Next) → Leads (cond b a nowhere) l r → (b ≡ true) × Leads a l r
only true a h = (refl, h)
only false a h = absurd (lost h)

-- the only cell that leads on
one : {p : Point} {xs : List ℕ} {r : Reading} (k : ℕ) (a : Next) → ((x : ℕ) → next p x ≡ cond (eqb x k) a nowhere) → Leads (to p) xs r
    → (l : List ℕ) × (xs ≡ k ∷ l) × Leads a l r
one {r = r} k a f e = cell e λ x l q h.
    let (t, b) = only (eqb x k) a (subst (λ (n : Next). Leads n l r) (f x) h) in
    (l, q ∙ ap (λ (y : ℕ). y ∷ l) (eqb-true x k t), b)

-- ---- from a point to STOP

-- only STOP
ending_says : {xs : List ℕ} {r : Reading} (r₀ : Reading) → Leads (to (ending r₀)) xs r → (xs ≡ stop_cell ∷ []) × (r₀ ≡ r)
unfolding next
ending_says r₀ e =
    let (l, q, h) = one stop_cell (over r₀) (λ x. refl) e in
    let s = ended h in
    (cc, s.1)

-- the event, and STOP
event_says : {xs : List ℕ} {r : Reading} (j : Joining) (c : Command) → Leads (to (event j c)) xs r
    → (xs ≡ joining_cell ∷ stop_cell ∷ []) × (bare j c ≡ r)
unfolding next
event_says j c e =
    let (l, q, h) = one joining_cell (to (ending (bare j c))) (λ x. refl) e in
    let s = ending_says (bare j c) h in
    (cc, s.1)

-- a repeated START, and on from the point
again_says : {xs : List ℕ} {r : Reading} (p : Point) → Leads (to (again p)) xs r → (l : List ℕ) × (xs ≡ repeated_start_cell ∷ l) × Leads (to p) l r
unfolding next
again_says p e = one repeated_start_cell (to p) (λ x. refl) e

-- a direct part: what its header and its data tell
record Direct (c : Command) (r : Reading) (xs : List ℕ) : Type 0 where
  old : ℕ
  new : ℕ
  answered : Bool
  small : leb old 127 ≡ true
  small_new : cond answered (leb new 127) (eqb new 0) ≡ true
  reads : directed c old new answered ≡ r
  cells : direct_cells old new answered ≡ xs

-- a new address, and STOP
new_says : {xs : List ℕ} {r : Reading} (c : Command) (a : ℕ) → Leads (to (new_address c a)) xs r
    → (new : ℕ) × (leb new 127 ≡ true) × (data_cell (write_byte new) ∷ stop_cell ∷ [] ≡ xs) × (directed c a new true ≡ r)
unfolding next
new_says c a e = cell e λ x l q h.
    let (t, b) = only (is_new_address x) _ h in
    let s = ending_says (directed c a (address_in x) true) b in
    let d = new_again x t in
    (address_in x, address_small x, cc, s.1)

-- a repeated START, the header, and what its answer asks for
direct-says : {xs : List ℕ} {r : Reading} (c : Command) → Leads (to (again (header c))) xs r → Direct c r xs
unfolding next
direct-says c e =
    let (xs', q, e') = again_says (header c) e in
    cell e' λ x l q' h.
    let (t, b) = only (is_write_byte x) _ h in
    let d = header_again x t in
    pick (answered_in x) _ _ b
    (λ u k.
    let (new, small, s, f) = new_says c (address_in x) k in
    let d' : answer_cell (write_byte (address_in x)) true ≡ x = rw u at d in
    record { old = address_in x; new = new; answered = true; small = address_small x; small_new = small; reads = f; cells = cc })
    (λ u k.
    let s = ending_says (directed c (address_in x) 0 false) k in
    let d' : answer_cell (write_byte (address_in x)) false ≡ x = rw u at d in
    record { old = address_in x; new = 0; answered = false; small = address_small x; small_new = refl; reads = s.1; cells = cc })

-- ---- the rounds

-- some rounds behind so many offers, and the end of the rounds
record Rounds (j : Joining) (k : ℕ) (r : Reading) (xs : List ℕ) : Type 0 where
  n : ℕ
  last : Bool
  behind_offer : not (last && eqb (k + n) 0) ≡ true
  reads : assigned j (k + n) last ≡ r
  cells : offers_cells n (tens_of n (drop 1 xs)) ++ rounds_end last ≡ xs
  right : offers_right n (tens_of n (drop 1 xs)) ≡ true

-- a cell of an identity, written again
abbrev Same : ℕ → Type 0
Same x = identity_cell (identity_byte x) ≡ x

-- where there are offers, the last header may have answered
some_offers : (last : Bool) (n : ℕ) → 0 < n → not (last && eqb n 0) ≡ true
some_offers last zero h = absurd (omega arith)
some_offers last (suc n) h = rw (eqb-suc-zero n, and-false)

-- one round more
module _ (j : Joining) (k : ℕ) (r : Reading) (a b c d e f g h y : ℕ) (l : List ℕ) where
  more : Same a → Same b → Same c → Same d → Same e → Same f → Same g → Same h → is_offered y ≡ true → Rounds j (k + 1) r l
      → Rounds j k r (repeated_start_cell ∷ broadcast_read true ∷ a ∷ b ∷ c ∷ d ∷ e ∷ f ∷ g ∷ h ∷ y ∷ l)
  unfolding offers_cells offer_cells tens_of ten_of numbers offers_right
  more sa sb sc sd se sf sg sh o w =
      let t = offered_again y o in
      let s : k + suc w.n ≡ k + 1 + w.n = omega arith in
      record {
        n = suc w.n;
        last = w.last;
        behind_offer = some_offers w.last (k + suc w.n) (omega arith);
        reads = rw s w.reads;
        cells = rw (sa, sb, sc, sd, se, sf, sg, sh, t.0) (cc w.cells);
        right = rw (t.1, low_bit 1 y (omega arith)) w.right;
      }

-- one identity byte of an offer
identity_says : {G : Type 0} {xs : List ℕ} {r : Reading} (j : Joining) (n k : ℕ) → Leads (to (offer j n (suc k))) xs r
    → ((x : ℕ) (l : List ℕ) → xs ≡ x ∷ l → Same x → Leads (to (offer j n k)) l r → G) → G
unfolding next
identity_says j n k e f = cell e λ x l q h.
    let (t, b) = only (is_identity x) _ h in
    f x l q (identity_again x t) b

-- an offer and the rounds behind it
offer_says : {xs : List ℕ} {r : Reading} (j : Joining) (k : ℕ) → Leads (to (offer j k 8)) xs r
    → ((l : List ℕ) → length l ≤ length xs → Leads (to (behind j (k + 1))) l r → Rounds j (k + 1) r l)
    → Rounds j k r (repeated_start_cell ∷ broadcast_read true ∷ xs)
unfolding next
offer_says {xs} {r} j k e₀ ih =
    identity_says j k 7 e₀ λ a l₁ q₁ s₁ e₁.
    identity_says j k 6 e₁ λ b l₂ q₂ s₂ e₂.
    identity_says j k 5 e₂ λ c l₃ q₃ s₃ e₃.
    identity_says j k 4 e₃ λ d l₄ q₄ s₄ e₄.
    identity_says j k 3 e₄ λ e l₅ q₅ s₅ e₅.
    identity_says j k 2 e₅ λ f l₆ q₆ s₆ e₆.
    identity_says j k 1 e₆ λ g l₇ q₇ s₇ e₇.
    identity_says j k 0 e₇ λ h l₈ q₈ s₈ e₈.
    cell e₈ λ y l q u.
    let (t, v) = only (is_offered y) _ u in
    let m : xs ≡ a ∷ b ∷ c ∷ d ∷ e ∷ f ∷ g ∷ h ∷ y ∷ l = cc in
    rw m (more j k r a b c d e f g h y l s₁ s₂ s₃ s₄ s₅ s₆ s₇ s₈ t (ih l (omega (arith, ap (λ (z : List ℕ). length z) m)) v))

-- behind an offer: one round more, or the end
behind_says : {xs : List ℕ} {r : Reading} (j : Joining) (k : ℕ) → Leads (to (behind j (k + 1))) xs r
    → ((l : List ℕ) → length l < length xs → Leads (to (round j (k + 1))) l r → Rounds j (k + 1) r (repeated_start_cell ∷ l))
    → Rounds j (k + 1) r xs
unfolding next offers_cells offers_right
behind_says {xs} {r} j k e ih = cell e λ x l q h. is x repeated_start_cell _ _ h
    (λ s b.
    let m : xs ≡ repeated_start_cell ∷ l = cc in
    rw m (ih l (omega (arith, ap (λ (z : List ℕ). length z) m)) b))
    λ b.
    let (t, u) = only (eqb x stop_cell) _ b in
    let s = eqb-true x stop_cell t in
    let f = ended u in
    let z : k + 1 + 0 ≡ k + 1 = omega arith in
    record { n = 0; last = true; behind_offer = some_offers true (k + 1 + 0) (omega arith); reads = rw z f.1; cells = cc; right = refl }

-- a round header, with the rounds behind it given
round_step : {xs : List ℕ} {r : Reading} (j : Joining) (k : ℕ) → Leads (to (round j k)) xs r
    → ((l : List ℕ) → length l < length xs → Leads (to (round j (k + 1))) l r → Rounds j (k + 1) r (repeated_start_cell ∷ l))
    → Rounds j k r (repeated_start_cell ∷ xs)
unfolding next offers_cells offers_right
round_step {xs} {r} j k e ih = cell e λ x l q h. is x (broadcast_read true) _ _ h
    (λ s b.
    let m : xs ≡ broadcast_read true ∷ l = cc in
    rw m (offer_says j k b λ l' n b'. behind_says j k b' λ l'' n' b''. ih l'' (omega (arith, ap (λ (z : List ℕ). length z) m)) b''))
    λ b.
    let (t, u) = only (eqb x (broadcast_read false)) _ b in
    let s = eqb-true x (broadcast_read false) t in
    let f = ending_says (assigned j k false) u in
    let z : k + 0 ≡ k = omega arith in
    record { n = 0; last = false; behind_offer = refl; reads = rw z f.1; cells = cc; right = refl }

-- so the rounds are those of so many offers: the length bounds how many
rounds_say : {r : Reading} (most : ℕ) (j : Joining) (k : ℕ) (xs : List ℕ) → length xs ≤ most → Leads (to (round j k)) xs r
    → Rounds j k r (repeated_start_cell ∷ xs)
rounds_say zero j k xs b e = round_step j k e λ l h. absurd (omega arith)
rounds_say (suc most) j k xs b e = round_step j k e λ l h. rounds_say most j (k + 1) l (omega arith)

-- ---- a whole record

-- the reading has a layout with the bytes that were read, and it gives the cells again
abbrev Back : Reading → List ℕ → Type 0
Back r cells = (has_layout r (offers_of r cells) ≡ true) × (cells_of r (offers_of r cells) ≡ cells)

-- over other names for cells and reading
back : {r₀ r : Reading} {front cells : List ℕ} → cells ≡ front → r₀ ≡ r → Back r₀ front → Back r cells
back e f b = subst₂ Back f (sym e) b

-- the cell of a command
abbrev CellOf : Command → ℕ → Type 0
CellOf commands.None x = Unit {0}
CellOf Assign x = x ≡ assign_cell
CellOf ResetAll x = x ≡ reset_all_cell
CellOf SetFromStatic x = x ≡ set_from_static_cell
CellOf Move x = x ≡ move_cell
CellOf Silence x = x ≡ silence_cell
CellOf Allow x = x ≡ allow_cell

-- a cell that is read as a command is that command's
command_cell : (x : ℕ) → CellOf (command_of x) x
unfolding command_of
command_cell x =
    cond_by (λ c. CellOf c x) (eqb x assign_cell) (eqb-true x assign_cell) λ _.
    cond_by (λ c. CellOf c x) (eqb x reset_all_cell) (eqb-true x reset_all_cell) λ _.
    cond_by (λ c. CellOf c x) (eqb x set_from_static_cell) (eqb-true x set_from_static_cell) λ _.
    cond_by (λ c. CellOf c x) (eqb x move_cell) (eqb-true x move_cell) λ _.
    cond_by (λ c. CellOf c x) (eqb x silence_cell) (eqb-true x silence_cell) λ _.
    cond_by (λ c. CellOf c x) (eqb x allow_cell) (eqb-true x allow_cell) λ _.
    tt

-- what stands before the command, behind a joining that lets one follow
abbrev opened : Joining → List ℕ → List ℕ
opened joinings.None xs = start_cell ∷ broadcast_write true ∷ xs
opened Refused xs = []
opened Answered xs = start_cell ∷ hot_join true ∷ repeated_start_cell ∷ broadcast_write true ∷ xs

-- so many right offers have a layout
assign_right : (j : Joining) (n : ℕ) (last : Bool) (bytes : List ℕ) → may_follow j Assign ≡ true → not (last && eqb n 0) ≡ true
    → length bytes ≡ 10 * n → offers_right n bytes ≡ true → has_layout (assigned j n last) bytes ≡ true
unfolding has_layout is_assigned
assign_right j n last bytes m b e o = rw (m, b, le-leb (10 * n) (length bytes) (omega arith), o)

-- an assign, with its rounds
assign_back : (j : Joining) (n : ℕ) (last : Bool) (l : List ℕ) → may_follow j Assign ≡ true → not (last && eqb n 0) ≡ true
    → offers_cells n (tens_of n (drop 1 l)) ++ rounds_end last ≡ l → offers_right n (tens_of n (drop 1 l)) ≡ true
    → Back (assigned j n last) (opened j (assign_cell ∷ l))
unfolding cells_of offers_of
assign_back joinings.None n last l m b c o = (assign_right joinings.None n last (tens_of n (drop 1 l)) m b (tens_length n (drop 1 l)) o, rw c)
assign_back Refused n last l m b c o = absurd (true≢false (sym m))
assign_back Answered n last l m b c o = (assign_right Answered n last (tens_of n (drop 1 l)) m b (tens_length n (drop 1 l)) o, rw c)

-- so what reads behind an assign has its layout
rounds_back : {r : Reading} (j : Joining) (l : List ℕ) → may_follow j Assign ≡ true → Leads (to (again (round j 0))) l r
    → Back r (opened j (assign_cell ∷ l))
rounds_back j l m e =
    let (l', q, h) = again_says (round j 0) e in
    let w = rounds_say (length l') j 0 l' (le_refl (length l')) h in
    let b = assign_back j w.n w.last (repeated_start_cell ∷ l') m (rw zero-add at w.behind_offer) w.cells w.right in
    rw q (back refl w.reads (rw zero-add b))

-- a command and what stands behind it
command_back : {r : Reading} {l : List ℕ} (c : Command) (x : ℕ) → CellOf c x → Leads (commanded joinings.None c) l r
    → Back r (opened joinings.None (x ∷ l))
unfolding has_layout is_bare is_directed cells_of
command_back commands.None x e h = absurd (lost h)
command_back {l = l} Assign x e h = rw e (rounds_back joinings.None l refl h)
command_back ResetAll x e h = let s = ending_says (bare joinings.None ResetAll) h in back (cc) s.1 (refl, refl)
command_back SetFromStatic x e h = let w = direct-says SetFromStatic h in back (cc) w.reads (rw (w.small, w.small_new), refl)
command_back Move x e h = let w = direct-says Move h in back (cc) w.reads (rw (w.small, w.small_new), refl)
command_back Silence x e h = let s = event_says joinings.None Silence h in back (cc) s.1 (refl, refl)
command_back Allow x e h = let s = event_says joinings.None Allow h in back (cc) s.1 (refl, refl)

-- the same behind an answered joining
joined_back : {r : Reading} {l : List ℕ} (c : Command) (x : ℕ) → CellOf c x
    → Leads (cond (may_follow Answered c) (commanded Answered c) nowhere) l r → Back r (opened Answered (x ∷ l))
unfolding has_layout is_bare cells_of
joined_back commands.None x e h = absurd (lost h)
joined_back {l = l} Assign x e h = rw e (rounds_back Answered l refl h)
joined_back ResetAll x e h = absurd (lost h)
joined_back SetFromStatic x e h = absurd (lost h)
joined_back Move x e h = absurd (lost h)
joined_back Silence x e h = let s = event_says Answered Silence h in back (cc) s.1 (refl, refl)
joined_back Allow x e h = absurd (lost h)

-- behind an answered joining
reopening_back : {r : Reading} {xs : List ℕ} → Leads (to reopening) xs r → Back r (start_cell ∷ hot_join true ∷ repeated_start_cell ∷ xs)
unfolding next has_layout is_bare cells_of
reopening_back {r} {xs} e = cell e λ x l q h. is x (broadcast_write true) _ _ h
    (λ p b. cell b λ y l' q' h'. let m : xs ≡ broadcast_write true ∷ y ∷ l' = cc in rw m (joined_back (command_of y) y (command_cell y) h'))
    λ g. is x (broadcast_write false) _ _ g
    (λ p b. let s = ending_says (bare Answered commands.None) b in back (cc) s.1 (refl, refl))
    λ g. absurd (lost g)

-- behind START
opening_back : {r : Reading} {xs : List ℕ} → Leads (to opening) xs r → Back r (start_cell ∷ xs)
unfolding next has_layout is_bare cells_of
opening_back {r} {xs} e = cell e λ x l q h. is x (broadcast_write true) _ _ h
    (λ p b. cell b λ y l' q' h'. let m : xs ≡ broadcast_write true ∷ y ∷ l' = cc in rw m (command_back (command_of y) y (command_cell y) h'))
    λ g. is x (broadcast_write false) _ _ g
    (λ p b. let s = ending_says (bare joinings.None commands.None) b in back (cc) s.1 (refl, refl))
    λ g. is x (hot_join true) _ _ g
    (λ p b. let (l', q', h') = again_says reopening b in let m : xs ≡ hot_join true ∷ repeated_start_cell ∷ l' = cc in rw m (reopening_back h'))
    λ g. is x (hot_join false) _ _ g
    (λ p b. let s = ending_says (bare Refused commands.None) b in back (cc) s.1 (refl, refl))
    λ g. absurd (lost g)

-- from START on
start_back : (r : Reading) (cells : List ℕ) → Leads (to start) cells r → Back r cells
unfolding next
start_back r cells e = let (l, q, h) = one start_cell (to opening) (λ x. refl) e in rw q (opening_back h)

-- what reads has a layout with the bytes that were read, the layout gives the cells again, and the bytes are of eight bits
pub read_layout : (r : Reading) (cells : List ℕ) → from start cells 0 ≡ says r
    → (has_layout r (offers_of r cells) ≡ true) × (cells_of r (offers_of r cells) ≡ cells) × (are_bytes (offers_of r cells) ≡ true)
unfolding offers_of
read_layout r cells e = let b = start_back r cells (on 0 e) in (b.0, b.1, tens_bytes _ _)
