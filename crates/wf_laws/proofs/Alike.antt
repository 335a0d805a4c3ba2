-- What one expansion joins, every expansion joins at the same addresses.
use Rattle.std.proofs.Common.{◌↔◌, IsTrue, [], subst, append-nil}
use Rattle.wf_model.specs.Reach.{module_along, Reaches}
use Rattle.wf_laws.specs.Alike.{OwnPairsLaw, AlikeLaw}
use Rattle.wf_laws.proofs.Reach.{crossing_law}
use Rattle.wf_laws.proofs.Depends.{depends_law}
use Rattle.wf_laws.proofs.Splits.{past_common}

pub own_pairs_law : OwnPairsLaw
own_pairs_law g u d wf ind m seen e x a n al i o hi ho =
    let c = crossing_law g u d wf ind m seen e x a a n n al al i o hi ho in
    let p : Reaches g d m a a i o ↔ IsTrue (d (module_along g m a) i o) = subst (λ z. Reaches g d m z z i o ↔ IsTrue (d (module_along g m a) i o)) (append-nil a) (past_common g d a [] [] m i o) in
    ((λ w. p.0 (c.0 w)), (λ h. c.1 (p.1 h)))

pub alike_law : AlikeLaw
alike_law g u d wf ind e f xe xf a b i o s t cs pt x y cx py =
    let p = depends_law g u d wf ind e xe s t a b i o cs pt in
    let q = depends_law g u d wf ind f xf x y a b i o cx py in
    ((λ h. q.1 (p.0 h)), (λ h. p.1 (q.0 h)))
