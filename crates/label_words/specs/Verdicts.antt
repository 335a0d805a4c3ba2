-- The words of verdicts.
use Rattle.std.specs.Prelude.{ℕ, List, codes}
use Rattle.verdict_model.specs.declared.verdict.Verdict.{Verdict}
use Rattle.verdict_model.specs.declared.verdict.Verdict.TheVariants.{Hidden1, Hidden2, Clash, Yes, No}

-- the words of a verdict
abbrev pub verdict_text : Verdict → List ℕ
verdict_text Hidden1 = codes "hidden 1"
verdict_text Hidden2 = codes "hidden 2"
verdict_text Clash = codes "clash"
verdict_text Yes = codes "yes"
verdict_text No = codes "no"
