-- Laws of the contents table: its entries one after the other, what a right sheet has, and how many boards.
use Prim.Native.Nat.{ℕ, zero, suc, ◌+◌, ◌-◌, ◌*◌, ◌^◌, ◌<◌, ◌≤◌}
use mathlib.Core.Path.{◌≡◌, refl, sym, ap, ◌∙◌}
use mathlib.Core.Bool.{Bool, true, false, cond, ◌&&◌, ◌||◌, and-eq-true_iff, true≢false, false≢true}
use mathlib.Core.List.{List, [], ◌∷◌, map}
use mathlib.Core.Logic.{◌⊎◌, inl, inr}
use native.Mathlib.Numerals.{add-one}
use native.Mathlib.Omega.{arith}
use lib.Dec.{eqb, ltb, leb}
use lib.ListN.{length, length-map}
use borrow.Author.Tests.{eqb-true, eqb-false, ltb-false, leb-true, le-ltb, le-leb, ne_eqb}
use Rattle.std.proofs.Common.{None, slice_get}
use Rattle.lists.specs.Numbers.{numbers}
use Rattle.lists.proofs.Bools.{both, neither, cond_by}
use Rattle.sheet.specs.declared.contents.Entry.{Entry}
use Rattle.sheet.specs.Sheet.{entry_count, entry_at, entries, bodies_begin, kind_right, length_right, entry_right, entries_right, sheet_right}
use Rattle.sheet.specs.Sheet.{bodies_of, board_of_body, boards_in}

-- ---- the entries, one after the other

-- those from the place i on
abbrev pub entries_from : List ℕ → ℕ → ℕ → List Entry
entries_from sheet count i = map (entry_at sheet) (numbers i (count - i))

-- all of them
entries-all : (sheet : List ℕ) → entries sheet ≡ entries_from sheet (entry_count sheet) 0
unfolding entries
entries-all sheet = let e : entry_count sheet ≡ entry_count sheet - 0 = omega arith in ap (λ (k : ℕ). map (entry_at sheet) (numbers 0 k)) e

-- the one at i, and those behind it
entries_step : (sheet : List ℕ) (count i : ℕ) → i < count → entries_from sheet count i ≡ entry_at sheet i ∷ entries_from sheet count (i + 1)
unfolding numbers
entries_step sheet count i h = let e : count - i ≡ suc (count - (i + 1)) = omega arith in rw (e, add-one i)

-- none behind the last
entries_none : (sheet : List ℕ) (count i : ℕ) → count ≤ i → entries_from sheet count i ≡ []
unfolding numbers
entries_none sheet count i h = let e : count - i ≡ 0 = omega arith in rw e

-- ---- a right sheet

-- no body is longer than 64 bytes
length_small : (kind long : ℕ) → length_right kind long ≡ true → long ≤ 64
length_small kind long h = go (eqb kind 1) (eqb kind 2) (eqb kind 3) h
  where
    go : (a b c : Bool) → cond a (eqb long 21) (cond b (eqb long 8) (c && leb long 64)) ≡ true → long ≤ 64
    go true b c h = omega (arith, eqb-true long 21 h)
    go false true c h = omega (arith, eqb-true long 8 h)
    go false false true h = leb-true long 64 h
    go false false false h = absurd (false≢true h)

-- the parts of a right entry
pub entry_parts : (count place due : ℕ) (e : Entry) → entry_right count place due e ≡ true
    → (kind_right count place e.kind ≡ true) × (length_right e.kind e.length ≡ true) × (e.offset ≡ due)
unfolding entry_right
entry_parts count place due e h = let t = simp and-eq-true_iff at h in (t.0.0, t.0.1, eqb-true e.offset due t.1)

-- the bodies of right entries end the file, so the first of them begins within it
pub due_fits : (size count place due : ℕ) (es : List Entry) → entries_right size count place due es ≡ true → due ≤ size
unfolding entries_right
due_fits size count place due [] h = omega (arith, eqb-true due size h)
due_fits size count place due (e ∷ es) h =
    let t = both (entry_right count place due e) (entries_right size count (suc place) (due + e.length) es) h in
    omega (arith, due_fits size count (suc place) (due + e.length) es t.1)

-- whether all of so many entries are right
abbrev pub all_right : List ℕ → ℕ → Bool
all_right sheet count = entries_right (length sheet) count 0 (4 * count + 1) (entries sheet)

-- what a right sheet has
pub record Right (sheet : List ℕ) : Type 0 where
  pub small : length sheet ≤ 512
  pub some : 1 ≤ entry_count sheet
  pub few : entry_count sheet ≤ 34
  pub table : bodies_begin sheet ≤ length sheet
  pub listed : all_right sheet (entry_count sheet) ≡ true

pub right_parts : (sheet : List ℕ) → sheet_right sheet ≡ true → Right sheet
unfolding sheet_right
right_parts sheet h =
    let t = simp and-eq-true_iff at h in
    record {
      small = leb-true (length sheet) 512 t.0.0;
      some = leb-true 1 (entry_count sheet) t.0.1.0;
      few = leb-true (entry_count sheet) 34 t.0.1.1;
      table = due_fits (length sheet) (entry_count sheet) 0 (bodies_begin sheet) (entries sheet) t.1;
      listed = t.1;
    }

-- a sheet that has not these is not right
pub not_right : (sheet : List ℕ) → (Right sheet → ⊥) → false ≡ sheet_right sheet
not_right sheet f = go (sheet_right sheet) refl
  where
    go : (b : Bool) → sheet_right sheet ≡ b → false ≡ b
    go true h = absurd (f (right_parts sheet h))
    go false h = refl

-- one that keeps the rules of size and count is right if its entries are
pub right_rest : (sheet : List ℕ) → length sheet ≤ 512 → 1 ≤ entry_count sheet → entry_count sheet ≤ 34
    → sheet_right sheet ≡ all_right sheet (entry_count sheet)
unfolding sheet_right
right_rest sheet small some few = rw (le-leb (length sheet) 512 small, le-leb 1 (entry_count sheet) some, le-leb (entry_count sheet) 34 few)

-- the test whether n is none, or more than m: it fails from 1 to m
pub none_or_more : (m n : ℕ) → (eqb n 0 || ltb m n) ≡ true → 1 ≤ n → n ≤ m → ⊥
none_or_more m n h some few = false≢true (rw (ne_eqb n 0 (λ e. omega (arith, e)), le-ltb m n few) at h)

-- and only there
pub some_not_more : (m n : ℕ) → (eqb n 0 || ltb m n) ≡ false → (1 ≤ n) × (n ≤ m)
some_not_more m n h =
    let t = (neither (eqb n 0) (ltb m n)).0 h in
    let some : (n ≡ 0 → ⊥) = eqb-false n 0 t.0 in
    (omega (arith, some), ltb-false m n t.1)

-- the test whether a sheet is longer than 512 bytes, or shorter than its table: it passes for no right one
pub longer : (size table : ℕ) → (ltb 512 size || ltb size table) ≡ true → size ≤ 512 → table ≤ size → ⊥
longer size table h small fits = false≢true (rw (le-ltb 512 size small, le-ltb size table fits) at h)

pub not_longer : (size table : ℕ) → (ltb 512 size || ltb size table) ≡ false → size ≤ 512
not_longer size table h = ltb-false 512 size ((neither (ltb 512 size) (ltb size table)).0 h).0

-- no byte stands first in an empty sheet
pub none_there : (sheet : List ℕ) → None ≡ slice_get sheet 0 → length sheet ≡ 0
none_there [] e = refl
none_there (byte ∷ bytes) e = absurd (cc)

-- ---- the loop over the entries: those before i are right, and the body of the one at i is due here

pub record Walking (sheet : List ℕ) (count due i : ℕ) : Type 0 where
  pub few : count < 256
  pub inside : i ≤ count
  pub small : due ≤ 4 * count + 1 + 64 * i
  pub same : all_right sheet count ≡ entries_right (length sheet) count i due (entries_from sheet count i)

pub walking_start : {sheet : List ℕ} {count : ℕ} → count ≡ entry_count sheet → entry_count sheet < 256 → Walking sheet count (4 * count + 1) 0
walking_start {sheet} {count} e h = record {
  few = omega arith;
  inside = omega arith;
  small = omega arith;
  same = rw (e, entries-all sheet);
}

module _ {sheet : List ℕ} {count due i : ℕ} where
  -- the next body is due at a place that fits a usize
  pub walking_small : Walking sheet count due i → i < count → (e : Entry) → entry_right count i due e ≡ true → due + e.length < 2 ^ 64
  walking_small v b e r = omega (arith, v.few, v.small, length_small e.kind e.length (entry_parts count i due e r).1)

  pub walking_turn : Walking sheet count due i → i < count → {e : Entry} → e ≡ entry_at sheet i → entry_right count i due e ≡ true
      → Walking sheet count (due + e.length) (i + 1)
  unfolding entries_right
  walking_turn v b {e} h r = record {
    few = v.few;
    inside = omega arith;
    small = omega (arith, v.small, length_small e.kind e.length (entry_parts count i due e r).1);
    same = v.same ∙ rw (entries_step sheet count i b, h, rw h at r, add-one i);
  }

  pub walking_stopped : Walking sheet count due i → i < count → {e : Entry} → e ≡ entry_at sheet i → entry_right count i due e ≡ false
      → false ≡ all_right sheet count
  unfolding entries_right
  walking_stopped v b h r = sym (v.same ∙ rw (entries_step sheet count i b, rw h at r))

  pub walking_ended : Walking sheet count due i → count ≤ i → eqb due (length sheet) ≡ all_right sheet count
  unfolding entries_right
  walking_ended v b = sym (v.same ∙ rw (entries_none sheet count i b))

-- ---- how many boards

-- behind the first an entry is of kind 2, or of kind 3 and the last
pub kind_behind : (count place kind : ℕ) → 1 ≤ place → kind_right count place kind ≡ true → (kind ≡ 2) ⊎ ((kind ≡ 3) × (place + 1 ≡ count))
kind_behind count place kind h r = go (eqb kind 2) refl (rw (ne_eqb place 0 (λ e. omega (arith, e))) at r)
  where
    go : (b : Bool) → eqb kind 2 ≡ b → (b || (eqb kind 3 && eqb (place + 1) count)) ≡ true → (kind ≡ 2) ⊎ ((kind ≡ 3) × (place + 1 ≡ count))
    go true e t = inl (eqb-true kind 2 e)
    go false e t =
        let q = both (eqb kind 3) (eqb (place + 1) count) t in
        inr (eqb-true kind 3 q.0, eqb-true (place + 1) count q.1)

-- whether the last entry is that of the flips
abbrev pub flips_last : List ℕ → ℕ → Bool
flips_last sheet count = eqb (entry_at sheet (count - 1)).kind 3

-- one board more, where that of the flips may be behind it
one_more : (b : Bool) (k : ℕ) → (k ≡ 0 → b ≡ false) → suc (cond b (k - 1) k) ≡ cond b k (suc k)
one_more true zero f = absurd (true≢false (f refl))
one_more true (suc k) f = omega arith
one_more false k f = refl

-- an entry before k others
boards_step : (sheet : List ℕ) (count k place : ℕ) (es : List Entry) → place + suc k ≡ count
    → ((entry_at sheet place).kind ≡ 2) ⊎ (((entry_at sheet place).kind ≡ 3) × (place + 1 ≡ count))
    → length (bodies_of 2 sheet es) ≡ cond (flips_last sheet count) (k - 1) k
    → length (bodies_of 2 sheet (entry_at sheet place ∷ es)) ≡ cond (flips_last sheet count) k (suc k)
unfolding bodies_of
boards_step sheet count k place es n (inl two) ih =
    rw (two, ih) (one_more (flips_last sheet count) k (λ z. let l : count - 1 ≡ place = omega (arith, z) in rw (l, two)))
boards_step sheet count k place es n (inr three) ih =
    let z : k ≡ 0 = omega (arith, three.1) in
    let l : count - 1 ≡ place = omega (arith, three.1) in
    let i = rw (z, l, three.0) at ih in
    rw (z, l, three.0) i

-- behind the first each entry is a board's, but for the last if it is the flips'
boards_behind : (sheet : List ℕ) (size count k place due : ℕ) → 1 ≤ place → place + k ≡ count
    → entries_right size count place due (map (entry_at sheet) (numbers place k)) ≡ true
    → length (bodies_of 2 sheet (map (entry_at sheet) (numbers place k))) ≡ cond (flips_last sheet count) (k - 1) k
unfolding entries_right bodies_of numbers
boards_behind sheet size count zero place due h n r = cond_by (λ x. 0 ≡ x) (flips_last sheet count) (λ e. omega arith) (λ e. refl)
boards_behind sheet size count (suc k) place due h n r =
    let e = entry_at sheet place in
    let es = map (entry_at sheet) (numbers (suc place) k) in
    let t = both (entry_right count place due e) (entries_right size count (suc place) (due + e.length) es) r in
    let d : suc k - 1 ≡ k = omega arith in
    rw d
    (boards_step sheet count k place es n
    (kind_behind count place e.kind h (entry_parts count place due e t.0).0)
    (boards_behind sheet size count k (suc place) (due + e.length) (omega arith) (omega arith) t.1))

-- the first entry, and those behind it
pub entries_apart : (sheet : List ℕ) → 1 ≤ entry_count sheet → entries sheet ≡ entry_at sheet 0 ∷ entries_from sheet (entry_count sheet) 1
entries_apart sheet some = entries-all sheet ∙ entries_step sheet (entry_count sheet) 0 some

-- where the body of the facts ends
abbrev facts_end : List ℕ → ℕ
facts_end sheet = bodies_begin sheet + (entry_at sheet 0).length

module _ (sheet : List ℕ) (right : sheet_right sheet ≡ true) where
  -- both are right
  right_apart : (entry_right (entry_count sheet) 0 (bodies_begin sheet) (entry_at sheet 0) ≡ true)
      × (entries_right (length sheet) (entry_count sheet) 1 (facts_end sheet) (entries_from sheet (entry_count sheet) 1) ≡ true)
  unfolding entries_right
  right_apart =
      let r = right_parts sheet right in
      both (entry_right (entry_count sheet) 0 (bodies_begin sheet) (entry_at sheet 0))
      (entries_right (length sheet) (entry_count sheet) 1 (facts_end sheet) (entries_from sheet (entry_count sheet) 1))
      (rw (entries_apart sheet r.some) at r.listed)

  -- the first is that of the facts
  pub facts_first : (entry_at sheet 0).kind ≡ 1
  facts_first =
      eqb-true (entry_at sheet 0).kind 1
      (entry_parts (entry_count sheet) 0 (bodies_begin sheet) (entry_at sheet 0) right_apart.0).0

  -- a board for each of the others, but for that of the flips
  pub boards_counted : length (boards_in sheet) ≡ cond (flips_last sheet (entry_count sheet)) (entry_count sheet - 2) (entry_count sheet - 1)
  unfolding boards_in bodies_of
  boards_counted =
      let some = (right_parts sheet right).some in
      let d : entry_count sheet - 2 ≡ entry_count sheet - 1 - 1 = omega arith in
      length-map (bodies_of 2 sheet (entries sheet)) board_of_body
      ∙ rw (entries_apart sheet some, facts_first, d)
      (boards_behind sheet (length sheet) (entry_count sheet) (entry_count sheet - 1) 1 (facts_end sheet) (omega arith) (omega arith) right_apart.1)

  -- so no more than there are entries
  pub boards_few : length (boards_in sheet) ≤ 34
  boards_few =
      let few = (right_parts sheet right).few in
      rw boards_counted (cond_by (λ k. k ≤ 34) (flips_last sheet (entry_count sheet)) (λ _. omega arith) (λ _. omega arith))

  module _ {last : Entry} (is : last ≡ entry_at sheet (entry_count sheet - 1)) where
    -- the flips are not the first
    pub flips_behind : last.kind ≡ 3 → 2 ≤ entry_count sheet
    flips_behind three =
        let far : (entry_count sheet - 1 ≡ 0 → ⊥) = λ z. omega (arith, facts_first, rw (is, z) at three) in
        omega (arith, far)

    -- with flips two entries are no board's
    pub boards_with_flips : last.kind ≡ 3 → entry_count sheet - 2 ≡ length (boards_in sheet)
    boards_with_flips three =
        let k : (entry_at sheet (entry_count sheet - 1)).kind ≡ 3 = rw is at three in
        sym (boards_counted ∙ rw k)

    -- without them one
    pub boards_alone : (last.kind ≡ 3 → ⊥) → entry_count sheet - 1 ≡ length (boards_in sheet)
    boards_alone other =
        let k : ((entry_at sheet (entry_count sheet - 1)).kind ≡ 3 → ⊥) = rw is at other in
        sym (boards_counted ∙ rw (ne_eqb (entry_at sheet (entry_count sheet - 1)).kind 3 k))
