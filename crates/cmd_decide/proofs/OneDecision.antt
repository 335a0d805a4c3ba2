-- Two labels under a view have one verdict, and `decide` has one end and one text for them.
use Rattle.std.proofs.Common.{◌≡◌, ℕ, List, [], ◌++◌, sym, ap, ◌∙◌, subst, append-nil}
use Rattle.std.specs.Prelude.{codes}
use Rattle.bit_pack.specs.Bits.{Holds}
use Rattle.wf_model.specs.Grammar.{Grammar}
use Rattle.wf_model.specs.View.{View as ViewOf}
use Rattle.label_model.specs.Labels.{Label, label_bits}
use Rattle.label_model.proofs.LabelBits.{whole_law}
use Rattle.verdict_model.specs.Verdicts.{IsVerdict}
use Rattle.verdict_model.proofs.OneVerdict.{one_verdict}
use Rattle.wf_message.specs.Endings.{End}
use Rattle.label_words.specs.Verdicts.{verdict_text}
use Rattle.cmd_decide.specs.Decided.{AreOfLabel, DecidesLabels, first_malformed, second_malformed, decided}

-- bytes are those of one label
pub one_label : (g : Grammar) (bytes : List ℕ) (l k : Label) → AreOfLabel g bytes l → AreOfLabel g bytes k → l ≡ k
one_label g bytes l k p q =
    (whole_law g l k bytes [] p.0 q.0 p.1 (subst (λ b. Holds b (label_bits k)) (sym (append-nil bytes)) q.1)).1

-- two labels have one end and one text
pub one_decision : (g : Grammar) (u : ViewOf) (a b : List ℕ) (d e : End) (t s : List ℕ) → DecidesLabels g u a b d t → DecidesLabels g u a b e s → (d ≡ e) × (t ≡ s)
one_decision g u a b d e t s (first_malformed n p is) (first_malformed m q js) = (p ∙ sym q, is ∙ sym js)
one_decision g u a b d e t s (first_malformed n p is) (second_malformed l m q js) = absurd (n l)
one_decision g u a b d e t s (first_malformed n p is) (decided x y hx hy v w q js) = absurd (n (x, hx.0, hx.1))
one_decision g u a b d e t s (second_malformed l n p is) (first_malformed m q js) = absurd (m l)
one_decision g u a b d e t s (second_malformed l n p is) (second_malformed k m q js) = (p ∙ sym q, is ∙ sym js)
one_decision g u a b d e t s (second_malformed l n p is) (decided x y hx hy v w q js) = absurd (n (y, hy.0, hy.1))
one_decision g u a b d e t s (decided x y hx hy v w p is) (first_malformed m q js) = absurd (m (x, hx.0, hx.1))
one_decision g u a b d e t s (decided x y hx hy v w p is) (second_malformed k m q js) = absurd (m (y, hy.0, hy.1))
one_decision g u a b d e t s (decided x y hx hy v w p is) (decided k l hk hl r z q js) =
    let first = one_label g a x k hx hk in
    let second = one_label g b y l hy hl in
    let same = one_verdict g u k l v r (subst (λ m. IsVerdict g u m l v) first (subst (λ m. IsVerdict g u x m v) second w)) z in
    (p ∙ sym q, is ∙ (ap (λ m. verdict_text m ++ codes "\n") same ∙ sym js))
