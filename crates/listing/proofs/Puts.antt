-- Laws of text that is put behind other text, and of what was then written into the lent buffer.
use Prim.Native.Nat.{ℕ}
use mathlib.Core.Path.{refl, sym, ◌∙◌}
use mathlib.Core.List.{List, [], ◌++◌}
use native.Mathlib.Nat.{add-zero}
use native.Mathlib.Omega.{arith}
use lib.ListN.{length-append, take-append-drop}
use Rattle.lists.proofs.Buffers.{lay_at_on}
use Rattle.listing.specs.declared.text.Text.{Text}
use Rattle.listing.specs.Puts.{Fits, Puts}

module _ {s t u : Text} where
  -- one part, and another behind it
  pub puts_both : {x y : List ℕ} → Puts s t x → Puts t u y → Puts s u (x ++ y)
  puts_both {x} {y} p q =
      let both = length-append x y in
      record {
        room = omega (arith, both);
        same = q.same ∙ p.same;
        wide = q.wide ∙ p.wide;
        place = omega (arith, both);
        laid = rw (q.laid, p.laid, p.place) (lay_at_on s.at x y s.out.now p.room);
      }

-- nothing
pub puts_none : (t : Text) → Fits t [] → Puts t t []
puts_none t f = record { room = f; same = refl; wide = refl; place = sym (add-zero t.at); laid = sym (take-append-drop t.at t.out.now) }
