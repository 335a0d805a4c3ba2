-- Words and files have an outcome, and one at most; and a good call has no end but that all is done. The families say it of their commands.
use Rattle.std.proofs.Common.{ℕ, List, [], Option, Some, None, refl, sym, ◌∙◌}
use Rattle.wf_io.specs.Told.{File}
use Rattle.wf_message.specs.Endings.{Usage}
use Rattle.wf_stage.specs.Outcomes.{HasOneOutcome, HasOutcome, EndsInDone}
use Rattle.wf_stage.specs.Families.{HaveOneOutcome, HaveOutcomes, AreDoneWhereGood}
use Rattle.wf_top.specs.Families.{families}
use Rattle.wf_top.specs.Outcome.{Command, command_of, Does}
use Rattle.outcome_laws.specs.Laws.{OneOutcomeLaw, SomeOutcomeLaw}
use Rattle.outcome_laws.specs.GoodCalls.{AreGood, GoodCallLaw}

-- words that are no command have one outcome
one_doing : HaveOneOutcome families → (files : List ℕ → File) (c : Option Command) → HasOneOutcome (Does files c)
one_doing one files None d e t s p q = (p.0 ∙ sym q.0, p.1 ∙ sym q.1)
one_doing one files (Some c) d e t s p q = one files c d e t s p q

pub one_outcome : HaveOneOutcome families → OneOutcomeLaw
one_outcome one files words = one_doing one files (command_of words)

some_doing : HaveOutcomes families → (files : List ℕ → File) (c : Option Command) → HasOutcome (Does files c)
some_doing some files None = (Usage, [], (refl, refl))
some_doing some files (Some c) = some files c

pub some_outcome : HaveOutcomes families → SomeOutcomeLaw
some_outcome some files words = some_doing some files (command_of words)

good_doing : AreDoneWhereGood families → (files : List ℕ → File) (c : Option Command) → AreGood files c → EndsInDone (Does files c)
good_doing done files None good e t h = absurd good
good_doing done files (Some c) good e t h = done files c good e t h

pub good_call : AreDoneWhereGood families → GoodCallLaw
good_call done files words e t good h = good_doing done files (command_of words) good e t h
