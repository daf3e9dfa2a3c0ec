-- What a loop needs of an element put in (`insert_by`) and of one taken out (`remove_at`): the list in three parts, and the invariants of
-- the loops that fill, shift, close up and copy.
use Prim.Native.Nat.{ℕ, zero, suc, ◌+◌, ◌-◌, ◌<◌, ◌≤◌}
use mathlib.Core.Path.{◌≡◌, refl, ap, ◌∙◌, sym}
use mathlib.Core.Bool.{Bool, true, false, cond}
use mathlib.Core.List.{List, [], ◌∷◌, ◌++◌}
use native.Mathlib.Omega.{arith}
use native.Mathlib.Numerals.{add-one}
use lib.ListN.{get_or-append, length, get_or, drop, take, set, replicate, length-append, length-take, length-drop, length-set}
use lib.Seq.{set_at, append_snoc, take-suc, take-suc-set, take_all, take_at, get_or_at, get_or-append-add, get_or-drop, drop-cons, drop-length}
use Rattle.lists.specs.Lists.{find, insert_by, remove_at}

module _ {A : Type 0} where
  module _ (p : A → Bool) (x : A) where
    pub insert_split : (l : List A) → insert_by p x l ≡ take (find p l) l ++ x ∷ drop (find p l) l
    insert_split [] = refl
    insert_split (y ∷ ys) = go (insert_split ys) (p y)
      where
        go : insert_by p x ys ≡ take (find p ys) ys ++ x ∷ drop (find p ys) ys → (b : Bool) → cond b (x ∷ y ∷ ys) (y ∷ insert_by p x ys) ≡ take (cond b 0 (suc (find p ys))) (y ∷ ys) ++ x ∷ drop (cond b 0 (suc (find p ys))) (y ∷ ys)
        go ih true = refl
        go ih false = ap (y ∷◌) ih

  pub remove_split : (k : ℕ) (z : A) (l : List A) → k < length l → remove_at k z l ≡ take k l ++ (drop (suc k) l ++ (z ∷ []))
  remove_split k z [] h = absurd (omega arith)
  remove_split zero z (y ∷ ys) h = refl
  remove_split (suc k) z (y ∷ ys) h = ap (y ∷◌) (remove_split k z ys (omega arith))

  pub remove_none : (k : ℕ) (z : A) (l : List A) → length l ≤ k → remove_at k z l ≡ l
  remove_none k z [] h = refl
  remove_none zero z (y ∷ ys) h = absurd (omega arith)
  remove_none (suc k) z (y ∷ ys) h = ap (y ∷◌) (remove_none k z ys (omega arith))

  -- an element set at a place that the list has not
  pub set_none : (l : List A) (k : ℕ) (x : A) → length l ≤ k → set l k x ≡ l
  set_none [] k x h = refl
  set_none (y ∷ ys) zero x h = absurd (omega arith)
  set_none (y ∷ ys) (suc k) x h = ap (y ∷◌) (set_none ys k x (omega arith))

  -- a loop that fills out from the front until it is the first n of t
  pub record Filled (t out : List A) (n i : ℕ) : Type 0 where
    pub len : length out ≡ n
    pub enough : n ≤ length t
    pub inside : i ≤ n
    pub same : take i out ≡ take i t

  module _ {t out : List A} {n : ℕ} where
    pub filled_start : length out ≡ n → n ≤ length t → Filled t out n 0
    filled_start e h = record { len = e; enough = h; inside = omega arith; same = refl }

  module _ {t out : List A} {n i : ℕ} where
    pub filled_turn : Filled t out n i → i < n → (v d : A) → v ≡ get_or t i d → Filled t (set out i v) n (i + 1)
    filled_turn f b v d e = record {
      len = length-set out i v ∙ f.len;
      enough = f.enough;
      inside = omega arith;
      same = rw (add-one, take-suc-set out i v (omega arith), take-suc t i d (omega arith), f.same, e);
    }

    pub filled_ended : Filled t out n i → n ≤ i → out ≡ take n t
    filled_ended f b = let e : i ≡ n = omega arith in sym (take_all n out (omega arith)) ∙ rw e at f.same

    pub filled_whole : Filled t out n i → n ≤ i → length t ≡ n → out ≡ t
    filled_whole f b e = filled_ended f b ∙ take_all n t (omega arith)

  pub find_le : (p : A → Bool) (l : List A) → find p l ≤ length l
  find_le p [] = omega arith
  find_le p (y ∷ ys) = go (find_le p ys) (p y)
    where
      go : find p ys ≤ length ys → (b : Bool) → cond b 0 (suc (find p ys)) ≤ suc (length ys)
      go ih true = omega arith
      go ih false = omega arith

  module _ (p : A → Bool) (x : A) (l : List A) where
    length_front : length (take (find p l) l) ≡ find p l
    length_front = rw (length-take) (omega (arith, find_le p l))

    pub length_insert : length (insert_by p x l) ≡ suc (length l)
    length_insert = rw (insert_split p x l, length-append, length_front, length-drop) (omega (arith, find_le p l))

    insert_front : take (find p l) l ≡ take (find p l) (insert_by p x l)
    insert_front = rw (insert_split p x l) (sym (take_at (take (find p l) l) (x ∷ drop (find p l) l) (find p l) length_front))

    insert_here : (d : A) → x ≡ get_or (insert_by p x l) (find p l) d
    insert_here d = rw (insert_split p x l) (sym (get_or_at (take (find p l) l) x (drop (find p l) l) d (find p l) length_front))

    insert_past : (i : ℕ) (d : A) → find p l ≤ i → get_or l i d ≡ get_or (insert_by p x l) (i + 1) d
    insert_past i d h =
        let e : i + 1 ≡ length (take (find p l) l) + suc (i - find p l) = omega (arith, length_front) in
        let e' : find p l + (i - find p l) ≡ i = omega arith in
        rw (insert_split p x l, e, get_or-append-add, get_or-drop, e')

  -- a loop that puts x into its place and moves the rest up by one: held is what goes in next
  pub record Shifting (p : A → Bool) (x : A) (l out : List A) (held d : A) (n i : ℕ) : Type 0 where
    pub filled : Filled (insert_by p x l) out n i
    pub past : find p l ≤ i
    pub is : held ≡ get_or (insert_by p x l) i d

  module _ {p : A → Bool} {x d : A} {l : List A} {n i : ℕ} where
    pub shift_start : length l ≡ n → i ≡ find p l → Shifting p x l l x d n i
    shift_start e f = rw f record {
      filled = record { len = e; enough = omega (arith, length_insert p x l); inside = omega (arith, find_le p l); same = insert_front p x l };
      past = omega arith;
      is = insert_here p x l d;
    }

  module _ {p : A → Bool} {x held d : A} {l out : List A} {n i : ℕ} where
    pub shift_turn : Shifting p x l out held d n i → i < n → Shifting p x l (set out i held) (get_or l i d) d n (i + 1)
    shift_turn s b = record { filled = filled_turn s.filled b held d s.is; past = omega arith; is = insert_past p x l i d s.past }

    pub shift_ended : Shifting p x l out held d n i → n ≤ i → out ≡ take n (insert_by p x l)
    shift_ended s b = filled_ended s.filled b

  module _ (k : ℕ) (z : A) (l : List A) (h : k < length l) where
    length_kept : length (take k l) ≡ k
    length_kept = rw (length-take) (omega arith)

    pub length_remove : length (remove_at k z l) ≡ length l
    length_remove = rw (remove_split k z l h, length-append, length_kept, length-append, length-drop) (omega arith)

    remove_front : take k l ≡ take k (remove_at k z l)
    remove_front = rw (remove_split k z l h) (sym (take_at (take k l) (drop (suc k) l ++ (z ∷ [])) k length_kept))

    remove_past : (i : ℕ) (d : A) → k ≤ i → i + 1 < length l → get_or l (i + 1) d ≡ get_or (remove_at k z l) i d
    remove_past i d a b =
        let e : i ≡ length (take k l) + (i - k) = omega (arith, length_kept) in
        let s : i - k < length (drop (suc k) l) = rw length-drop (omega arith) in
        let f : suc k + (i - k) ≡ i + 1 = omega arith in
        sym
        (ap (λ (m : List A). get_or m i d) (remove_split k z l h) ∙
        ap (λ (j : ℕ). get_or (take k l ++ (drop (suc k) l ++ (z ∷ []))) j d) e ∙
        get_or-append-add (take k l) (drop (suc k) l ++ (z ∷ [])) (i - k) d ∙
        get_or-append (drop (suc k) l) (z ∷ []) d (i - k) s ∙
        get_or-drop (suc k) l (i - k) d ∙
        ap (λ (j : ℕ). get_or l j d) f)

    remove_last : (i : ℕ) (d : A) → i + 1 ≡ length l → z ≡ get_or (remove_at k z l) i d
    remove_last i d e =
        let q : i ≡ length (take k l) + length (drop (suc k) l) = rw (length_kept, length-drop) (omega arith) in
        sym
        (ap (λ (m : List A). get_or m i d) (remove_split k z l h) ∙
        ap (λ (j : ℕ). get_or (take k l ++ (drop (suc k) l ++ (z ∷ []))) j d) q ∙
        get_or-append-add (take k l) (drop (suc k) l ++ (z ∷ [])) (length (drop (suc k) l)) d ∙
        get_or_at (drop (suc k) l) z [] d (length (drop (suc k) l)) refl)

  -- a loop that moves what follows the element at k down by one; the last place is written after it
  pub record Closing (k : ℕ) (z : A) (l out : List A) (n i : ℕ) : Type 0 where
    pub filled : Filled (remove_at k z l) out n i
    pub size : length l ≡ n
    pub past : k ≤ i
    pub short : i < n

  module _ {k : ℕ} {z : A} {l : List A} {n : ℕ} where
    pub close_start : length l ≡ n → k < n → Closing k z l l n k
    close_start e b =
        let h : k < length l = omega arith in
        record {
          filled = record { len = e; enough = omega (arith, length_remove k z l h); inside = omega arith; same = remove_front k z l h };
          size = e;
          past = omega arith;
          short = b;
        }

  module _ {k : ℕ} {z : A} {l out : List A} {n i : ℕ} where
    pub close_turn : Closing k z l out n i → i + 1 < n → (d : A) → Closing k z l (set out i (get_or l (i + 1) d)) n (i + 1)
    close_turn s b d = record {
      filled = filled_turn s.filled (omega arith) (get_or l (i + 1) d) d (remove_past k z l (omega arith) i d s.past (omega arith));
      size = s.size;
      past = omega arith;
      short = b;
    }

    pub close_ended : Closing k z l out n i → (e : ℕ) → e + 1 ≡ n → n ≤ i + 1 → set out e z ≡ remove_at k z l
    close_ended s e q b =
        let h : k < length l = omega arith in
        let here : e ≡ i = omega arith in
        rw here
        (filled_ended (filled_turn s.filled s.short z z (remove_last k z l h i z (omega arith))) (omega arith) ∙
        take_all n (remove_at k z l) (omega (arith, length_remove k z l h)))

  -- a loop that copies the first n of s to the front of d, which then is l
  pub record Copied (s d l : List A) (n i : ℕ) : Type 0 where
    pub fits : n ≤ length s
    pub room : n ≤ length d
    pub inside : i ≤ n
    pub same : l ≡ take i s ++ drop i d

  module _ {s d : List A} {n : ℕ} where
    pub copy_start : n ≤ length s → n ≤ length d → Copied s d d n 0
    copy_start f r = record { fits = f; room = r; inside = omega arith; same = refl }

  module _ {s d l : List A} {n i : ℕ} where
    pub copy_length : Copied s d l n i → length l ≡ length d
    copy_length v = rw (v.same, length-append, length-take, length-drop) (omega (arith, v.fits, v.room, v.inside))

    pub copy_turn : Copied s d l n i → i < n → (x : A) → Copied s d (set l i (get_or s i x)) n (i + 1)
    copy_turn v b x = record {
      fits = v.fits;
      room = v.room;
      inside = omega arith;
      same =
          let short : length (take i s) ≡ i = rw length-take (omega (arith, v.fits)) in
          rw (
            v.same,
            drop-cons d i x (omega (arith, v.room)),
            set_at (take i s) (get_or d i x) (drop (suc i) d) (get_or s i x) i short,
            add-one,
            take-suc s i x (omega (arith, v.fits)),
            append_snoc,
          );
    }

    pub copy_ended : Copied s d l n i → n ≤ i → l ≡ take n s ++ drop n d
    copy_ended v b = let e : i ≡ n = omega (arith, v.inside) in rw (← e) v.same

  -- a loop that takes out all of n elements, the last first: from place i on there is only z
  pub record Gone (z : A) (out : List A) (n i : ℕ) : Type 0 where
    pub len : length out ≡ n
    pub inside : i ≤ n
    pub none : drop i out ≡ replicate (n - i) z

  replicate_behind : (n : ℕ) (z : A) → replicate n z ++ (z ∷ []) ≡ z ∷ replicate n z
  replicate_behind zero z = refl
  replicate_behind (suc n) z = ap (z ∷◌) (replicate_behind n z)

  one_gone : (z : A) (l : List A) (k n : ℕ) → k < length l → drop (suc k) l ≡ replicate n z → drop k (remove_at k z l) ≡ z ∷ replicate n z
  one_gone z [] k n h e = absurd (omega arith)
  one_gone z (y ∷ ys) zero n h e = ap (◌++ (z ∷ [])) e ∙ replicate_behind n z
  one_gone z (y ∷ ys) (suc k) n h e = one_gone z ys k n (omega arith) e

  module _ {z : A} {out : List A} {n : ℕ} where
    pub gone_start : length out ≡ n → Gone z out n n
    gone_start e =
        let left : n - n ≡ 0 = omega arith in
        record { len = e; inside = omega arith; none = rw left (ap (λ (k : ℕ). drop k out) (sym e) ∙ drop-length out) }

    turned : (i : ℕ) → Gone z out n i → 0 < i → Gone z (remove_at (i - 1) z out) n (i - 1)
    turned zero g h = absurd (omega arith)
    turned (suc k) g h =
        let before : suc k - 1 ≡ k = omega arith in
        let more : n - k ≡ suc (n - suc k) = omega (arith, g.inside) in
        rw before
        (record {
          len = length_remove k z out (omega (arith, g.len, g.inside)) ∙ g.len;
          inside = omega (arith, g.inside);
          none = rw more (one_gone z out k (n - suc k) (omega (arith, g.len, g.inside)) g.none);
        })

    ended : (i : ℕ) → Gone z out n i → i ≤ 0 → out ≡ replicate n z
    ended zero g h = let whole : n - 0 ≡ n = omega arith in rw whole at g.none
    ended (suc k) g h = absurd (omega arith)

  module _ {z : A} {out : List A} {n i : ℕ} where
    pub gone_turn : Gone z out n i → 0 < i → Gone z (remove_at (i - 1) z out) n (i - 1)
    gone_turn g h = turned i g h

    pub gone_ended : Gone z out n i → i ≤ 0 → out ≡ replicate n z
    gone_ended g h = ended i g h
