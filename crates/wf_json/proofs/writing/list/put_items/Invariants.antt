use Rattle.std.proofs.Common.{ℕ, List}
use Rattle.wf_json.specs.Writing.{Takes, TakesTexts, joined_texts}
use Rattle.wf_json.proofs.writing.list.put_items.Given as goal

abbrev pub invariant-loop-k : goal.invariant-loop-k
invariant-loop-k g l = (text : ℕ → List ℕ) → TakesTexts g.S.TextSink.holds (goal.F-post g l.put) l.count text → Takes g.S.TextSink.holds l.initial.out l.out (joined_texts text l.k)
