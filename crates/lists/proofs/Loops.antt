-- Invariants of a loop that walks a list of n elements from the front, one for each definition of `Lists`. Each is a record whose
-- parameters say all that a law needs: a proof hands over the invariant, the loop's test and the branch's fact, and nothing else.
--     -start   before the first turn        -turn    one turn on
--     -found   where the loop returns early -ended   after the loop
use Prim.Native.Nat.{ℕ, ◌+◌, ◌<◌, ◌≤◌}
use mathlib.Core.Path.{◌≡◌, refl, ◌∙◌, sym}
use mathlib.Core.Bool.{Bool, true, false, ◌&&◌}
use mathlib.Core.List.{List}
use native.Mathlib.Omega.{arith}
use lib.Dec.{ltb}
use lib.ListN.{length, get_or, take, drop, length-take}
use lib.Seq.{get_or-take}
use borrow.Author.Tests.{ltb-true, ltb-false}
use Rattle.lists.specs.Lists.{any, all, pairwise, count, find}
use Rattle.lists.proofs.Bools.{both}
use Rattle.lists.proofs.Lists.{any_here, any_next, any_end, all_here, all-next, all_end, count_here, count_next, count_end, find_here, find-next, find_end, pairwise_here, pairwise-next}

module _ {A : Type 0} where
  -- no element before i passed: any p l is any p of what is left
  pub record Any (p : A → Bool) (l : List A) (d : A) (n i : ℕ) : Type 0 where
    pub len : length l ≡ n
    pub inside : i ≤ n
    pub same : any p l ≡ any p (drop i l)

  -- w is all p of what is left: of l, or of a part of l from some place on, if every element before i passed
  pub record All (p : A → Bool) (l : List A) (d : A) (w : Bool) (n i : ℕ) : Type 0 where
    pub len : length l ≡ n
    pub inside : i ≤ n
    pub same : w ≡ all p (drop i l)

  -- every element before i stands in r to every later one
  pub record Pairs (r : A → A → Bool) (l : List A) (d : A) (n i : ℕ) : Type 0 where
    pub len : length l ≡ n
    pub inside : i ≤ n
    pub same : pairwise r l ≡ pairwise r (drop i l)

  -- k elements before i passed
  pub record Count (p : A → Bool) (l : List A) (d : A) (n i k : ℕ) : Type 0 where
    pub len : length l ≡ n
    pub inside : i ≤ n
    pub few : k ≤ i
    pub same : count p l ≡ k + count p (drop i l)

  -- none before i passed
  pub record Find (p : A → Bool) (l : List A) (d : A) (n i : ℕ) : Type 0 where
    pub len : length l ≡ n
    pub inside : i ≤ n
    pub same : find p l ≡ i + find p (drop i l)

  module _ {p : A → Bool} {l : List A} {d : A} {n : ℕ} where
    pub any_start : length l ≡ n → Any p l d n 0
    any_start e = record { len = e; inside = omega arith; same = refl }

    pub all_start : length l ≡ n → All p l d (all p l) n 0
    all_start e = record { len = e; inside = omega arith; same = refl }

    pub all_start_at : (i : ℕ) → i ≤ n → length l ≡ n → All p l d (all p (drop i l)) n i
    all_start_at i h e = record { len = e; inside = h; same = refl }

    pub count_start : length l ≡ n → Count p l d n 0 0
    count_start e = record { len = e; inside = omega arith; few = omega arith; same = omega arith }

    pub find_start : length l ≡ n → Find p l d n 0
    find_start e = record { len = e; inside = omega arith; same = omega arith }

  module _ {p : A → Bool} {l : List A} {d : A} {n i : ℕ} where
    pub any_turn : Any p l d n i → i < n → p (get_or l i d) ≡ false → Any p l d n (i + 1)
    any_turn v b e = record { len = v.len; inside = omega arith; same = v.same ∙ any_next p l i d (omega arith) e }

    pub any_found : Any p l d n i → i < n → p (get_or l i d) ≡ true → true ≡ any p l
    any_found v b e = sym (v.same ∙ any_here p l i d (omega arith) e)

    pub any_ended : Any p l d n i → n ≤ i → false ≡ any p l
    any_ended v b = sym (v.same ∙ any_end p l i (omega arith))

    pub find_turn : Find p l d n i → i < n → p (get_or l i d) ≡ false → Find p l d n (i + 1)
    find_turn v b e = record { len = v.len; inside = omega arith; same = omega (arith, v.same, find-next p l i d (omega arith) e) }

    pub find_found : Find p l d n i → i < n → p (get_or l i d) ≡ true → i ≡ find p l
    find_found v b e = omega (arith, v.same, find_here p l i d (omega arith) e)

    pub find_ended : Find p l d n i → n ≤ i → n ≡ find p l
    find_ended v b = omega (arith, v.same, find_end p l i (omega arith))

  module _ {p : A → Bool} {l : List A} {d : A} {n i k : ℕ} where
    pub count_turn : Count p l d n i k → i < n → p (get_or l i d) ≡ true → Count p l d n (i + 1) (k + 1)
    count_turn v b e = record { len = v.len; inside = omega arith; few = omega arith; same = omega (arith, v.same, count_here p l i d (omega arith) e) }

    pub count_skip : Count p l d n i k → i < n → p (get_or l i d) ≡ false → Count p l d n (i + 1) k
    count_skip v b e = record { len = v.len; inside = omega arith; few = omega arith; same = omega (arith, v.same, count_next p l i d (omega arith) e) }

    pub count_ended : Count p l d n i k → n ≤ i → k ≡ count p l
    count_ended v b = omega (arith, v.same, count_end p l i (omega arith))

  module _ {p : A → Bool} {l : List A} {d : A} {w : Bool} {n i : ℕ} where
    pub all_turn : All p l d w n i → i < n → p (get_or l i d) ≡ true → All p l d w n (i + 1)
    all_turn v b e = record { len = v.len; inside = omega arith; same = v.same ∙ all-next p l i d (omega arith) e }

    pub all_found : All p l d w n i → i < n → p (get_or l i d) ≡ false → false ≡ w
    all_found v b e = sym (v.same ∙ all_here p l i d (omega arith) e)

    pub all_ended : All p l d w n i → n ≤ i → true ≡ w
    all_ended v b = sym (v.same ∙ all_end p l i (omega arith))

  module _ {r : A → A → Bool} {l : List A} {d : A} {n : ℕ} where
    pub pairs_start : length l ≡ n → Pairs r l d n 0
    pairs_start e = record { len = e; inside = omega arith; same = refl }

  module _ {r : A → A → Bool} {l : List A} {d : A} {n i : ℕ} where
    pub pairs_turn : Pairs r l d n i → i < n → all (r (get_or l i d)) (drop (i + 1) l) ≡ true → Pairs r l d n (i + 1)
    pairs_turn v b e = record { len = v.len; inside = omega arith; same = v.same ∙ pairwise-next r l i d (omega arith) e }

    pub pairs_found : Pairs r l d n i → i < n → all (r (get_or l i d)) (drop (i + 1) l) ≡ false → false ≡ pairwise r l
    pairs_found v b e = sym (v.same ∙ pairwise_here r l i d (omega arith) e)

-- ---- a loop over all n places that looks only at the first k

module _ {A : Type 0} where
  -- no element before i, and among the first k, passed
  pub record AnyOf (p : A → Bool) (k : ℕ) (l : List A) (d : A) (n i : ℕ) : Type 0 where
    pub len : length l ≡ n
    pub inside : i ≤ n
    pub same : any p (take k l) ≡ any p (drop i (take k l))

  module _ {p : A → Bool} {k : ℕ} {l : List A} {d : A} {n : ℕ} where
    pub any_of_start : length l ≡ n → AnyOf p k l d n 0
    any_of_start e = record { len = e; inside = omega arith; same = refl }

  -- a place among them is one of the list taken
  here_taken : (k : ℕ) (l : List A) (n i : ℕ) → length l ≡ n → i < n → i < k → i < length (take k l)
  here_taken k l n i e b h = omega (arith, length-take k l)

  module _ {p : A → Bool} {k : ℕ} {l : List A} {d : A} {n i : ℕ} where
    pub any_of_turn : AnyOf p k l d n i → i < n → (ltb i k && p (get_or l i d)) ≡ false → AnyOf p k l d n (i + 1)
    any_of_turn v b e = record { len = v.len; inside = omega arith; same = v.same ∙ go (ltb i k) refl }
      where
        go : (t : Bool) → ltb i k ≡ t → any p (drop i (take k l)) ≡ any p (drop (i + 1) (take k l))
        go true h =
            let j : i < k = ltb-true i k h in
            any_next p (take k l) i d (here_taken k l n i v.len b j) (rw (get_or-take k l i d j) (rw h at e))
        go false h =
            let j : length (take k l) ≤ i = omega (arith, length-take k l, ltb-false i k h) in
            any_end p (take k l) i j ∙ sym (any_end p (take k l) (i + 1) (omega arith))

    pub any_of_found : AnyOf p k l d n i → i < n → (ltb i k && p (get_or l i d)) ≡ true → true ≡ any p (take k l)
    any_of_found v b e =
        let t = both (ltb i k) (p (get_or l i d)) e in
        let j : i < k = ltb-true i k t.0 in
        sym (v.same ∙ any_here p (take k l) i d (here_taken k l n i v.len b j) (rw (get_or-take k l i d j) t.1))

    pub any_of_ended : AnyOf p k l d n i → n ≤ i → false ≡ any p (take k l)
    any_of_ended v b = sym (v.same ∙ any_end p (take k l) i (omega (arith, length-take k l, v.len)))
