-- The loops over the offers: whether their bytes are right, and their cells.
use Prim.Native.Nat.{ℕ, zero, suc, ◌+◌, ◌-◌, ◌*◌, ◌<◌, ◌≤◌}
use mathlib.Core.Path.{◌≡◌, refl, ◌∙◌}
use mathlib.Core.List.{List, [], ◌∷◌, ◌++◌, map, append_assoc, append-nil, map-append}
use native.Mathlib.Numerals.{add-one}
use native.Mathlib.Omega.{arith}
use lib.Dec.{eqb}
use lib.ListN.{length, get_or, take, drop, set, length-append, length-map, length-take, length-drop}
use lib.Seq.{drop-drop, take-suc}
use borrow.Rule.Slice.PartMut.{put_mid}
use Rattle.std.proofs.lemmas.List.{take_rest}
use Rattle.lists.specs.Buffers.{lay, lay_at}
use Rattle.lists.proofs.Buffers.{lay_on, lay_at_on, lay_at_one, lay-length}
use Rattle.parity.specs.Cells.{answer_cell, identity_cell}
use Rattle.readings.specs.Layouts.{offer_cells, offers_cells}
use Rattle.writer.proofs.Laws.{store_two, put_behind}

-- ---- the cells of an offer

-- the cells of the identity bytes before k stand behind the header
abbrev pub Identity : List ℕ → List ℕ → List ℕ → ℕ → Type 0
Identity bytes buffer cells k = cells ≡ lay_at 2 (map identity_cell (take k bytes)) buffer

module _ (bytes : List ℕ) (enough : 10 ≤ length bytes) where
  identity_count : (k : ℕ) → k ≤ 8 → length (map identity_cell (take k bytes)) ≡ k
  identity_count k h = simp (length-map, length-take) (omega arith)

  pub identity_turn : (buffer : List ℕ) → 11 ≤ length buffer → {cells : List ℕ} {k : ℕ} → Identity bytes buffer cells k → k < 8
      → {cell : ℕ} → cell ≡ identity_cell (get_or bytes k 0) → Identity bytes buffer (set cells (2 + k) cell) (k + 1)
  identity_turn buffer room {cells} {k} v b {cell} e =
      let more : take (k + 1) bytes ≡ take k bytes ++ (get_or bytes k 0 ∷ []) = rw add-one (take-suc bytes k 0 (omega arith)) in
      rw (v, lay_at_one 2 k _ buffer cell (identity_count k (omega arith)) (omega arith), e, more, map-append)

  -- behind the header and the identity stands the address byte
  pub offer_ended : (buffer : List ℕ) → 11 ≤ length buffer → {cells : List ℕ} {k last : ℕ}
      → Identity bytes (set (set buffer 0 513) 1 506) cells k → 8 ≤ k → k ≤ 8
      → last ≡ answer_cell (get_or bytes 8 0) (eqb (get_or bytes 9 0) 0) → set cells 10 last ≡ lay (offer_cells bytes) buffer
  unfolding offer_cells
  offer_ended buffer h {cells} {k} {last} v most few e =
      let all : k ≡ 8 = omega arith in
      let out : List ℕ = map identity_cell (take 8 bytes) in
      let long : length out ≡ 8 = identity_count 8 (omega arith) in
      let header = store_two 0 buffer 513 506 (omega arith) in
      let behind = lay_at_on 0 (513 ∷ 506 ∷ []) out buffer (omega arith) in
      let whole : cells ≡ lay_at 0 (513 ∷ 506 ∷ out) buffer = (rw (all, header) at v) ∙ behind in
      rw (whole, lay_at_one 0 10 (513 ∷ 506 ∷ out) buffer last (omega arith) (omega arith), e)

-- ---- the cells of all offers

offer_length : (bytes : List ℕ) → 10 ≤ length bytes → length (offer_cells bytes) ≡ 11
unfolding offer_cells
offer_length bytes h = simp (length-append, length-map, length-take) (omega arith)

pub offers_length : (n : ℕ) (bytes : List ℕ) → 10 * n ≤ length bytes → length (offers_cells n bytes) ≡ 11 * n
unfolding offers_cells
offers_length zero bytes h = refl
offers_length (suc n) bytes h =
    let rest = offers_length n (drop 10 bytes) (rw length-drop (omega arith)) in
    rw (length-append, offer_length bytes (omega arith), rest) (omega arith)

-- the last one stands behind the others
offers_last : (n : ℕ) (bytes : List ℕ) → offers_cells (suc n) bytes ≡ offers_cells n bytes ++ offer_cells (drop (10 * n) bytes)
unfolding offers_cells
offers_last zero bytes = append-nil (offer_cells bytes)
offers_last (suc n) bytes =
    let on : 10 + 10 * n ≡ 10 * suc n = omega arith in
    rw (offers_last n (drop 10 bytes), drop-drop, on, append_assoc)

-- those before i stand in front
abbrev pub Offered : List ℕ → List ℕ → List ℕ → ℕ → Type 0
Offered bytes buffer cells i = cells ≡ lay (offers_cells i bytes) buffer

module _ (bytes buffer : List ℕ) where
  pub offered_start : Offered bytes buffer buffer 0
  unfolding offers_cells
  offered_start = refl

  module _ (count : ℕ) (enough : 10 * count ≤ length bytes) where
    pub offered_turn : 11 * count ≤ length buffer → {cells : List ℕ} {i : ℕ} → Offered bytes buffer cells i → i < count → {part : List ℕ}
        → part ≡ lay (offer_cells (take (length bytes - 10 * i) (drop (10 * i) bytes))) (take (length cells - 11 * i) (drop (11 * i) cells))
        → Offered bytes buffer (put_mid (11 * i) (length cells - 11 * i) cells part) (i + 1)
    offered_turn room {cells} {i} v b e =
        let long = offers_length i bytes (omega arith) in
        let same : length cells ≡ length buffer = rw v (lay-length (offers_cells i bytes) buffer (omega arith)) in
        let one : List ℕ = offer_cells (drop (10 * i) bytes) in
        put_behind (11 * i) one cells (omega arith) (e ∙ rw take_rest)
        ∙ rw (v, add-one, offers_last) (lay_on (11 * i) (offers_cells i bytes) one buffer long (omega arith))

    pub offered_ended : {cells : List ℕ} {i : ℕ} → Offered bytes buffer cells i → count ≤ i → i ≤ count
        → (11 * count ≡ length (offers_cells count bytes)) × (cells ≡ lay (offers_cells count bytes) buffer)
    offered_ended {i = i} v most few =
        let all : i ≡ count = omega arith in
        (omega (arith, offers_length count bytes enough), rw all at v)
