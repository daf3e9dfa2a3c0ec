-- Laws of a buffer that is filled read by read.
use Rattle.std.proofs.Common.{ℕ, ◌≡◌, ◌+◌, ◌≤◌, List, ◌++◌, length, take, sym, ◌∙◌, ap, append_assoc, None, Some}
use Rattle.std.proofs.lemmas.List.{take-append-le, length-take-le}
use Rattle.std.proofs.Math.Seq.{take-append-add}
use Rattle.std.specs.Io.KnownBytes.{Consumes}
use Rattle.std.specs.declared.option.Option.{Option}
use borrow.Rule.Slice.PartMut.{put_mid, post_of}

-- two reads, one behind the other
pub consumes-more : (a b c : Option (List ℕ)) (xs ys : List ℕ) → Consumes a b xs → Consumes b c ys → Consumes a c (xs ++ ys)
consumes-more None b c xs ys p q = tt
consumes-more (Some all) None c xs ys p q = absurd p
consumes-more (Some all) (Some rest) None xs ys p q = absurd q
consumes-more (Some all) (Some rest) (Some last) xs ys p q = p ∙ ap (λ l. xs ++ l) q ∙ sym (append_assoc xs ys last)

-- what stands at the start, after a read behind the first bytes
pub take-filled : (xs ys : List ℕ) (done n k : ℕ) → done ≤ length xs → n ≤ length ys → take (done + n) (put_mid done k xs ys) ≡ take done xs ++ take n ys
take-filled xs ys done n k l m =
    let start : length (take done xs) ≡ done = length-take-le done xs l in
    ap (λ i. take (i + n) (take done xs ++ (ys ++ post_of done k xs))) (sym start)
    ∙ take-append-add (take done xs) (ys ++ post_of done k xs) n
    ∙ ap (λ t. take done xs ++ t) (take-append-le n ys (post_of done k xs) m)
