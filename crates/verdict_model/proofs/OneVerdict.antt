-- Two labels have one verdict at most.
use Rattle.std.proofs.Common.{refl}
use Rattle.verdict_model.specs.declared.verdict.Verdict.TheVariants.{Hidden1, Hidden2, Clash, Yes, No}
use Rattle.verdict_model.specs.Laws.{OneVerdictLaw}

-- two labels have one verdict
pub one_verdict : OneVerdictLaw
one_verdict g u x y Hidden1 Hidden1 p q = refl
one_verdict g u x y Hidden1 Hidden2 p q = absurd (q.0 p)
one_verdict g u x y Hidden1 Clash p q = absurd (q.0.0 p)
one_verdict g u x y Hidden1 Yes p q = absurd (q.0.0 p)
one_verdict g u x y Hidden1 No p q = absurd (q.0.0 p)
one_verdict g u x y Hidden2 Hidden1 p q = absurd (p.0 q)
one_verdict g u x y Hidden2 Hidden2 p q = refl
one_verdict g u x y Hidden2 Clash p q = absurd (q.0.1 p.1)
one_verdict g u x y Hidden2 Yes p q = absurd (q.0.1 p.1)
one_verdict g u x y Hidden2 No p q = absurd (q.0.1 p.1)
one_verdict g u x y Clash Hidden1 p q = absurd (p.0.0 q)
one_verdict g u x y Clash Hidden2 p q = absurd (p.0.1 q.1)
one_verdict g u x y Clash Clash p q = refl
one_verdict g u x y Clash Yes p q = absurd (q.1 p.1)
one_verdict g u x y Clash No p q = absurd (q.1 p.1)
one_verdict g u x y Yes Hidden1 p q = absurd (p.0.0 q)
one_verdict g u x y Yes Hidden2 p q = absurd (p.0.1 q.1)
one_verdict g u x y Yes Clash p q = absurd (p.1 q.1)
one_verdict g u x y Yes Yes p q = refl
one_verdict g u x y Yes No p q = absurd (q.2 p.2)
one_verdict g u x y No Hidden1 p q = absurd (p.0.0 q)
one_verdict g u x y No Hidden2 p q = absurd (p.0.1 q.1)
one_verdict g u x y No Clash p q = absurd (p.1 q.1)
one_verdict g u x y No Yes p q = absurd (p.2 q.2)
one_verdict g u x y No No p q = refl
