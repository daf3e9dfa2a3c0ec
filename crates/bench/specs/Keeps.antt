-- What the code keeps of a run, for the contracts of its private functions: nothing that a caller must believe.
use Rattle.std.specs.Prelude.{ℕ, ◌+◌, ◌≤◌, ◌≡◌, false, List, ◌++◌, length, replicate}
use Rattle.lists.specs.Buffers.{lay}
use Rattle.boards.specs.declared.Board.{Board}
use Rattle.boards.specs.declared.Heard.{Heard}
use Rattle.machine.specs.declared.Stepped.{Stepped}
use Rattle.bench.specs.declared.play.Played.{Played}
use Rattle.bench.specs.Play.{Play}
use Rattle.bench.specs.Wire.{offered_on, round_on}

-- what is kept behind a call of the machine, by which nothing else happens
abbrev pub told : Played → Stepped → Played
told kept r = record { machine = r.machine; boards = kept.boards; at = kept.at + r.count; rounds = kept.rounds; ending = kept.ending }

-- the run is kept: its boards with others behind them, its cells at the front of a buffer, its rounds by their number
pub record Keeps (behind : List Board) (buffer : List ℕ) (kept : Played) (stand : List ℕ) (p : Play) : Type 0 where
  pub machine : kept.machine ≡ p.machine
  pub boards : kept.boards ≡ p.boards ++ behind
  pub at : kept.at ≡ length p.cells
  pub fits : length p.cells ≤ length buffer
  pub cells : stand ≡ lay p.cells buffer
  pub rounds : kept.rounds ≡ length p.rounds
  pub ending : kept.ending ≡ p.ending

-- a round leads on: whatever run of so many boards was kept before it, that run with the round is kept after it
abbrev pub KeepsRound : ℕ → ℕ → Played → List ℕ → Played → List ℕ → Type 0
KeepsRound count flip kept cells kept' cells' =
    (behind : List Board) (buffer : List ℕ) (p : Play) → length p.boards ≡ count
    → Keeps behind buffer kept cells p → Keeps behind buffer kept' cells' (round_on (length buffer) flip p)

-- an offer leads on, if what was heard of these boards was heard with nobody in behind them
abbrev pub KeepsOffer : Heard → ℕ → Played → List ℕ → Played → List ℕ → Type 0
KeepsOffer heard flip kept cells kept' cells' =
    (behind : List Board) (buffer : List ℕ) (p : Play) (h : Heard) → length h.still ≡ length p.boards
    → heard.identity ≡ h.identity → heard.still ≡ h.still ++ replicate (length behind) false
    → Keeps behind buffer kept cells p → Keeps behind buffer kept' cells' (offered_on (length buffer) flip h p)
