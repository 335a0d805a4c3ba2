use Rattle.std.proofs.Common.{◌≡◌, ◌++◌, map, take}
use Rattle.wf_model.specs.declared.numbers.ProdNo.{ProdNo}
use Rattle.grammar_text.specs.Texts.{numbers_text}
use Rattle.grammar_text.proofs.adding.add_spaced.Given as goal

abbrev pub invariant-loop-p : goal.invariant-loop-p
invariant-loop-p l = l.out.items ≡ l.initial.out.items ++ numbers_text (map (λ (p : ProdNo). p.0) (take l.p-index l.productions))
