-- What all and pairwise say of parts of a list, and that they stay when an element is put in, replaced, taken out or cut off; what it
-- means that something was found, and how many pass.
use Prim.Native.Nat.{ℕ, zero, suc, ◌<◌, ◌≤◌}
use mathlib.Core.Path.{◌≡◌, refl, sym, ap, ◌∙◌}
use mathlib.Core.Bool.{Bool, true, false, cond, not, ◌&&◌, ◌||◌, false≢true}
use mathlib.Core.List.{List, [], ◌∷◌, ◌++◌, map}
use native.Mathlib.Omega.{arith}
use lib.Dec.{ltb, leb-suc-suc}
use lib.ListN.{length, get_or, take, drop, set}
use Rattle.lists.specs.Lists.{any, all, pairwise, count, find, insert_by, remove_at}
use borrow.Author.Tests.{ltb-true, lt-ltb, not-true}
use Rattle.lists.proofs.Bools.{both, and, or_right}

module _ {A : Type 0} where
  pub all_mono : (p q : A → Bool) → ((y : A) → p y ≡ true → q y ≡ true) → (l : List A) → all p l ≡ true → all q l ≡ true
  all_mono p q f [] h = refl
  all_mono p q f (y ∷ ys) h = and (f y (both (p y) (all p ys) h).0) (all_mono p q f ys (both (p y) (all p ys) h).1)

  pub all_drop : (p : A → Bool) (n : ℕ) (l : List A) → all p l ≡ true → all p (drop n l) ≡ true
  all_drop p zero l h = h
  all_drop p (suc n) [] h = refl
  all_drop p (suc n) (y ∷ ys) h = all_drop p n ys (both (p y) (all p ys) h).1

  pub all_take : (p : A → Bool) (n : ℕ) (l : List A) → all p l ≡ true → all p (take n l) ≡ true
  all_take p zero l h = refl
  all_take p (suc n) [] h = refl
  all_take p (suc n) (y ∷ ys) h = and (both (p y) (all p ys) h).0 (all_take p n ys (both (p y) (all p ys) h).1)

  pub all_at : (p : A → Bool) (l : List A) (k : ℕ) (d : A) → all p l ≡ true → k < length l → p (get_or l k d) ≡ true
  all_at p [] k d h b = absurd (omega arith)
  all_at p (y ∷ ys) zero d h b = (both (p y) (all p ys) h).0
  all_at p (y ∷ ys) (suc k) d h b = all_at p ys k d (both (p y) (all p ys) h).1 (omega arith)

  pub all_both : (p q : A → Bool) (l : List A) → all p l ≡ true → all q l ≡ true → all (λ y. p y && q y) l ≡ true
  all_both p q [] h k = refl
  all_both p q (y ∷ ys) h k =
      and (and (both (p y) (all p ys) h).0 (both (q y) (all q ys) k).0)
      (all_both p q ys (both (p y) (all p ys) h).1 (both (q y) (all q ys) k).1)

  -- where something is found, it passes
  pub found_passes : (p : A → Bool) (l : List A) (d : A) → find p l < length l → p (get_or l (find p l) d) ≡ true
  found_passes p [] d h = absurd (omega arith)
  found_passes p (y ∷ ys) d h = go (found_passes p ys d) (p y) refl h
    where
      go : (find p ys < length ys → p (get_or ys (find p ys) d) ≡ true) → (b : Bool) → p y ≡ b → cond b 0 (suc (find p ys)) < suc (length ys) → p (get_or (y ∷ ys) (cond b 0 (suc (find p ys))) d) ≡ true
      go ih true e k = e
      go ih false e k = ih (omega arith)

  -- some element passes exactly where one is found
  pub any-find : (p : A → Bool) (l : List A) → any p l ≡ ltb (find p l) (length l)
  any-find p [] = refl
  any-find p (y ∷ ys) = go (any-find p ys) (p y)
    where
      go : any p ys ≡ ltb (find p ys) (length ys) → (b : Bool) → (b || any p ys) ≡ ltb (cond b 0 (suc (find p ys))) (suc (length ys))
      go ih true = sym (lt-ltb 0 (suc (length ys)) (omega arith))
      go ih false = ih ∙ sym (leb-suc-suc (suc (find p ys)) (length ys))

  pub find_lt : (p : A → Bool) (l : List A) → any p l ≡ true → find p l < length l
  find_lt p l h = ltb-true (find p l) (length l) (sym (any-find p l) ∙ h)

  -- some element passes if the one at a place does
  pub any_at : (p : A → Bool) (l : List A) (k : ℕ) (d : A) → k < length l → p (get_or l k d) ≡ true → any p l ≡ true
  any_at p [] k d b h = absurd (omega arith)
  any_at p (y ∷ ys) zero d b h = rw h
  any_at p (y ∷ ys) (suc k) d b h = or_right (p y) (any_at p ys k d (omega arith) h)

  -- some element of what f makes of a list passes where f of some element does
  pub any-map : {B : Type 0} (q : B → Bool) (f : A → B) (l : List A) → any q (map f l) ≡ any (λ y. q (f y)) l
  any-map q f [] = refl
  any-map q f (y ∷ ys) = ap (λ (b : Bool). q (f y) || b) (any-map q f ys)

  -- where some element passes, at least one does
  pub any-count : (p : A → Bool) (l : List A) → any p l ≡ true → 1 ≤ count p l
  any-count p [] h = absurd (false≢true h)
  any-count p (y ∷ ys) h = go (any-count p ys) (p y) h
    where
      go : (any p ys ≡ true → 1 ≤ count p ys) → (b : Bool) → (b || any p ys) ≡ true → 1 ≤ cond b (suc (count p ys)) (count p ys)
      go ih true k = omega arith
      go ih false k = ih k

  -- no more pass than there are
  pub count_le : (p : A → Bool) (l : List A) → count p l ≤ length l
  count_le p [] = omega arith
  count_le p (y ∷ ys) = go (count_le p ys) (p y)
    where
      go : count p ys ≤ length ys → (b : Bool) → cond b (suc (count p ys)) (count p ys) ≤ suc (length ys)
      go ih true = omega arith
      go ih false = omega arith

  pub none_any : (p : A → Bool) (l : List A) → any p l ≡ false → all (λ y. not (p y)) l ≡ true
  none_any p [] h = refl
  none_any p (y ∷ ys) h = go (none_any p ys) (p y) h
    where
      go : (any p ys ≡ false → all (λ z. not (p z)) ys ≡ true) → (b : Bool) → (b || any p ys) ≡ false → (not b && all (λ z. not (p z)) ys) ≡ true
      go ih true k = sym k
      go ih false k = ih k

  -- where every element fails the test, none passes
  pub all_none : (p : A → Bool) (l : List A) → all (λ y. not (p y)) l ≡ true → any p l ≡ false
  all_none p [] h = refl
  all_none p (y ∷ ys) h = let t = both (not (p y)) (all (λ z. not (p z)) ys) h in rw (not-true (p y) t.0) (all_none p ys t.1)

  -- where every element fails the test and x, which passes, is set at k, it is found there
  pub find-set : (p : A → Bool) (x : A) → p x ≡ true → (l : List A) (k : ℕ) → k < length l → all (λ y. not (p y)) l ≡ true → find p (set l k x) ≡ k
  find-set p x e [] k b h = absurd (omega arith)
  find-set p x e (y ∷ ys) zero b h = rw e
  find-set p x e (y ∷ ys) (suc k) b h =
      let t = both (not (p y)) (all (λ z. not (p z)) ys) h in rw (not-true (p y) t.0) (ap suc (find-set p x e ys k (omega arith) t.1))

  pub all_append : (p : A → Bool) (l k : List A) → all p l ≡ true → all p k ≡ true → all p (l ++ k) ≡ true
  all_append p [] k h g = g
  all_append p (y ∷ ys) k h g = let t = both (p y) (all p ys) h in and t.0 (all_append p ys k t.1 g)

  pub all_insert : (p q : A → Bool) (x : A) → p x ≡ true → (l : List A) → all p l ≡ true → all p (insert_by q x l) ≡ true
  all_insert p q x e [] h = and e refl
  all_insert p q x e (y ∷ ys) h = go (all_insert p q x e ys (both (p y) (all p ys) h).1) (q y)
    where
      go : all p (insert_by q x ys) ≡ true → (b : Bool) → all p (cond b (x ∷ y ∷ ys) (y ∷ insert_by q x ys)) ≡ true
      go ih true = and e h
      go ih false = and (both (p y) (all p ys) h).0 ih

  pub all_set : (p : A → Bool) (x : A) → p x ≡ true → (l : List A) (k : ℕ) → all p l ≡ true → all p (set l k x) ≡ true
  all_set p x e [] k h = refl
  all_set p x e (y ∷ ys) zero h = and e (both (p y) (all p ys) h).1
  all_set p x e (y ∷ ys) (suc k) h = and (both (p y) (all p ys) h).0 (all_set p x e ys k (both (p y) (all p ys) h).1)

  pub all_snoc : (p : A → Bool) (x : A) → p x ≡ true → (l : List A) → all p l ≡ true → all p (l ++ (x ∷ [])) ≡ true
  all_snoc p x e [] h = and e refl
  all_snoc p x e (y ∷ ys) h = and (both (p y) (all p ys) h).0 (all_snoc p x e ys (both (p y) (all p ys) h).1)

  pub all_remove : (p : A → Bool) (x : A) → p x ≡ true → (l : List A) (k : ℕ) → all p l ≡ true → all p (remove_at k x l) ≡ true
  all_remove p x e [] k h = refl
  all_remove p x e (y ∷ ys) zero h = all_snoc p x e ys (both (p y) (all p ys) h).1
  all_remove p x e (y ∷ ys) (suc k) h = and (both (p y) (all p ys) h).0 (all_remove p x e ys k (both (p y) (all p ys) h).1)

  module _ (r : A → A → Bool) where
    pub pairwise_snoc : (x : A) (l : List A) → all (λ y. r y x) l ≡ true → pairwise r l ≡ true → pairwise r (l ++ (x ∷ [])) ≡ true
    pairwise_snoc x [] h w = refl
    pairwise_snoc x (y ∷ ys) h w =
        let hy = both (r y x) (all (λ z. r z x) ys) h in
        let wy = both (all (r y) ys) (pairwise r ys) w in
        and (all_snoc (r y) x hy.0 ys wy.0) (pairwise_snoc x ys hy.1 wy.1)

    -- elements that pass p and stand in r stand in s
    pub pairwise_mono : (s : A → A → Bool) (p : A → Bool) → ((x y : A) → p x ≡ true → p y ≡ true → r x y ≡ true → s x y ≡ true)
        → (l : List A) → all p l ≡ true → pairwise r l ≡ true → pairwise s l ≡ true
    pairwise_mono s p f [] h w = refl
    pairwise_mono s p f (y ∷ ys) h w =
        let hy = both (p y) (all p ys) h in
        let wy = both (all (r y) ys) (pairwise r ys) w in
        and
        (all_mono (λ z. p z && r y z) (s y) (λ z k. f y z hy.0 (both (p z) (r y z) k).0 (both (p z) (r y z) k).1) ys (all_both p (r y) ys hy.1 wy.0))
        (pairwise_mono s p f ys hy.1 wy.1)

    -- each element of the first list stands in r to each of the second
    pub pairwise_append : (l k : List A) → pairwise r l ≡ true → pairwise r k ≡ true → all (λ x. all (r x) k) l ≡ true → pairwise r (l ++ k) ≡ true
    pairwise_append [] k h g b = g
    pairwise_append (x ∷ xs) k h g b =
        let t = both (all (r x) xs) (pairwise r xs) h in
        let u = both (all (r x) k) (all (λ y. all (r y) k) xs) b in
        and (all_append (r x) xs k t.0 u.0) (pairwise_append xs k t.1 g u.1)

    -- an element goes, and x, which may stand behind every one, comes to the end
    pub pairwise_remove : (x : A) (l : List A) (k : ℕ) → all (λ y. r y x) l ≡ true → pairwise r l ≡ true → pairwise r (remove_at k x l) ≡ true
    pairwise_remove x [] k h w = refl
    pairwise_remove x (y ∷ ys) zero h w = pairwise_snoc x ys (both (r y x) (all (λ z. r z x) ys) h).1 (both (all (r y) ys) (pairwise r ys) w).1
    pairwise_remove x (y ∷ ys) (suc k) h w =
        let hy = both (r y x) (all (λ z. r z x) ys) h in
        let wy = both (all (r y) ys) (pairwise r ys) w in
        and (all_remove (r y) x hy.0 ys k wy.0) (pairwise_remove x ys k hy.1 wy.1)

    -- what holds of each element that stands behind or before the one at a place holds of all that are left when that goes
    pub pairwise_others : (q : A → Bool) (x : A) → q x ≡ true → (l : List A) (k : ℕ) (d : A)
        → ((y : A) → r (get_or l k d) y ≡ true → q y ≡ true)
        → ((y : A) → r y (get_or l k d) ≡ true → q y ≡ true)
        → k < length l → pairwise r l ≡ true → all q (remove_at k x l) ≡ true
    pairwise_others q x e [] k d behind before b w = refl
    pairwise_others q x e (y ∷ ys) zero d behind before b w = all_snoc q x e ys (all_mono (r y) q behind ys (both (all (r y) ys) (pairwise r ys) w).0)
    pairwise_others q x e (y ∷ ys) (suc k) d behind before b w =
        let wy = both (all (r y) ys) (pairwise r ys) w in
        and (before y (all_at (r y) ys k d wy.0 (omega arith))) (pairwise_others q x e ys k d behind before (omega arith) wy.1)

    pub pairwise_take : (n : ℕ) (l : List A) → pairwise r l ≡ true → pairwise r (take n l) ≡ true
    pairwise_take zero l h = refl
    pairwise_take (suc n) [] h = refl
    pairwise_take (suc n) (y ∷ ys) h =
        let b = both (all (r y) ys) (pairwise r ys) h in and (all_take (r y) n ys b.0) (pairwise_take n ys b.1)

    -- x goes in before the first y with q y: it may stand before each such y (after) and after each other (before)
    pub pairwise_insert : (q : A → Bool) (x : A) (p : A → Bool)
        → ((y : A) → p y ≡ true → q y ≡ true → r x y ≡ true)
        → ((y : A) → p y ≡ true → q y ≡ false → r y x ≡ true)
        → ((y z : A) → q y ≡ true → r y z ≡ true → q z ≡ true)
        → (l : List A) → all p l ≡ true → pairwise r l ≡ true → pairwise r (insert_by q x l) ≡ true
    pairwise_insert q x p after before on [] h w = refl
    pairwise_insert q x p after before on (y ∷ ys) h w =
        go (pairwise_insert q x p after before on ys (both (p y) (all p ys) h).1 (both (all (r y) ys) (pairwise r ys) w).1) (q y) refl
      where
        go : pairwise r (insert_by q x ys) ≡ true → (b : Bool) → q y ≡ b → pairwise r (cond b (x ∷ y ∷ ys) (y ∷ insert_by q x ys)) ≡ true
        go ih true e =
            and
            (and (after y (both (p y) (all p ys) h).0 e)
            (all_mono (λ z. p z && r y z) (r x)
            (λ z k. after z (both (p z) (r y z) k).0 (on y z e (both (p z) (r y z) k).1))
            ys (all_both p (r y) ys (both (p y) (all p ys) h).1 (both (all (r y) ys) (pairwise r ys) w).0)))
            w
        go ih false e =
            and (all_insert (r y) q x (before y (both (p y) (all p ys) h).0 e) ys (both (all (r y) ys) (pairwise r ys) w).0) ih

    -- x takes the place of the element at k, and stands to every other as that did
    pub pairwise-set : (x old : A) (p : A → Bool)
        → ((y : A) → p y ≡ true → r old y ≡ true → r x y ≡ true)
        → ((y : A) → p y ≡ true → r y old ≡ true → r y x ≡ true)
        → (l : List A) (k : ℕ) (d : A) → get_or l k d ≡ old → k < length l → all p l ≡ true → pairwise r l ≡ true → pairwise r (set l k x) ≡ true
    pairwise-set x old p after before [] k d e b h w = absurd (omega arith)
    pairwise-set x old p after before (y ∷ ys) zero d e b h w =
        and
        (all_mono (λ z. p z && r y z) (r x)
        (λ z k. after z (both (p z) (r y z) k).0 (rw (← e) (both (p z) (r y z) k).1))
        ys (all_both p (r y) ys (both (p y) (all p ys) h).1 (both (all (r y) ys) (pairwise r ys) w).0))
        (both (all (r y) ys) (pairwise r ys) w).1
    pairwise-set x old p after before (y ∷ ys) (suc k) d e b h w =
        let hy = both (p y) (all p ys) h in
        let wy = both (all (r y) ys) (pairwise r ys) w in
        and
        (all_set (r y) x (before y hy.0 (rw e at (all_at (r y) ys k d wy.0 (omega arith)))) ys k wy.0)
        (pairwise-set x old p after before ys k d e (omega arith) hy.1 wy.1)

    -- x takes the place of the element at k: a test that x passes, and whatever stands to that element in r, every element then passes
    pub all_beside : (p : A → Bool) (x old : A) → p x ≡ true
        → ((y : A) → r old y ≡ true → p y ≡ true)
        → ((y : A) → r y old ≡ true → p y ≡ true)
        → (l : List A) (k : ℕ) (d : A) → get_or l k d ≡ old → k < length l → pairwise r l ≡ true → all p (set l k x) ≡ true
    all_beside p x old e after before [] k d g b w = refl
    all_beside p x old e after before (y ∷ ys) zero d g b w =
        and e (all_mono (r y) p (λ z h. after z (rw (← g) h)) ys (both (all (r y) ys) (pairwise r ys) w).0)
    all_beside p x old e after before (y ∷ ys) (suc k) d g b w =
        let t = both (all (r y) ys) (pairwise r ys) w in
        let inside : k < length ys = omega arith in
        and (before y (rw g at (all_at (r y) ys k d t.0 inside))) (all_beside p x old e after before ys k d g inside t.1)
