-- The words that answer queries on a run, as it was prepared.
use Rattle.std.specs.Prelude.{ℕ, List}
use Rattle.wf_flat.specs.Table.{events_of}
use Rattle.cmd_ask.specs.Answers.{IsAnswerOfRun}
use Rattle.cmd_ask.specs.Prepared.{PreparedSeen, IsPrepared}

-- the run is one of the grammar, with its flat graph under the view
abbrev pub IsReady : PreparedSeen → Type 0
IsReady p = IsPrepared p.viewed.accepted.grammar.core p.viewed.view.core p.run p.flat

-- a word answers a query of two names on the run, under the view
abbrev pub IsToldBy : PreparedSeen → List ℕ → List ℕ → List ℕ → Type 0
IsToldBy p = IsAnswerOfRun p.viewed.accepted.grammar.core p.viewed.view.core (events_of p.run)
