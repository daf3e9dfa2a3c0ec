-- What is put into a lent buffer, behind the text that stands there.
use Rattle.std.specs.Prelude.{ℕ, ◌≡◌, ◌+◌, ◌≤◌, List, length}
use Rattle.lists.specs.Buffers.{lay_at}
use Rattle.listing.specs.declared.text.Text.{Text}

-- there is room for these bytes
abbrev pub Fits : Text → List ℕ → Type 0
Fits t bytes = t.at + length bytes ≤ length t.out.now

-- they are put: they stand behind the text, in the same buffer, and nothing else has changed there
pub record Puts (before after : Text) (bytes : List ℕ) : Type 0 where
  pub room : before.at + length bytes ≤ length before.out.now
  pub same : after.out.ghost_name ≡ before.out.ghost_name
  pub wide : length after.out.now ≡ length before.out.now
  pub place : after.at ≡ before.at + length bytes
  pub laid : after.out.now ≡ lay_at before.at bytes before.out.now
