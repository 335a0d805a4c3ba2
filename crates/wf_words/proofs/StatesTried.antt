-- States that accept, tried one after another.
use Rattle.std.proofs.Common.{◌≡◌, ◌↔◌, ◌⊎◌, ℕ, ◌+◌, ◌<◌, ◌≤◌, Bool, true, false, List, ◌++◌, take, refl, sym, ◌∙◌, subst, inl, inr, arith, true≢false}
use Rattle.std.specs.Prelude.{IsTrue}
use Rattle.wf_model.specs.Lists.{IsIn}
use Rattle.wf_model.specs.Grammar.{Grammar}
use Rattle.wf_model.specs.View.{View}
use Rattle.bit_pack.specs.Gamma.{gamma}
use Rattle.label_model.specs.Labels.{Label, IsLabel}
use Rattle.verdict_model.specs.declared.verdict.Verdict.{Verdict}
use Rattle.verdict_model.specs.declared.verdict.Verdict.TheVariants.{Yes}
use Rattle.verdict_model.specs.Verdicts.{IsVerdict}
use Rattle.verdict_model.proofs.OneVerdict.{one_verdict}
use Rattle.words_model.specs.Lifting.{in_state, lift_view, lift_label}
use Rattle.words_model.specs.Verdicts.{IsLiftedYes}
use Rattle.words_model.proofs.LiftedLabels.{label_in}
use Rattle.wf_recur.proofs.Ways.{less_or_same}
use Rattle.wf_label.specs.Values.{AreLabelBits}
use Rattle.wf_vlabel.specs.Seen.{ViewLabelSeen}
use Rattle.wf_decode.specs.Answers.{OfLabels}
use Rattle.wf_words.specs.LastParts.{IsLastPartOf, AreLiftedBits}
use Rattle.wf_words.specs.WordViews.{WordViewSeen, IsWordView, OfWords, OfLifted, IsYesIn}
use Rattle.wf_words.proofs.LiftedBits.{lifted_bits, lifted_label_bits}

-- none of the states below n
abbrev pub NoneBelow : WordViewSeen → View → Label → Label → ℕ → Type 0
NoneBelow w u x y n = (t : ℕ) → t < n → IsYesIn w u x y t → ⊥

-- one state more
pub none_more : (w : WordViewSeen) (u : View) (x y : Label) (n : ℕ) → NoneBelow w u x y n → (IsYesIn w u x y n → ⊥) → NoneBelow w u x y (n + 1)
none_more w u x y n none other t low told = go (less_or_same t n low)
  where
    go : (t < n) ⊎ (t ≡ n) → ⊥
    go (inl h) = none t h told
    go (inr e) = other (subst (IsYesIn w u x y) e told)

-- all states
pub none_of_all : (w : WordViewSeen) (u : View) (x y : Label) (n : ℕ) → IsWordView w → w.automaton.states ≤ n → NoneBelow w u x y n → (t : ℕ) × IsYesIn w u x y t → ⊥
none_of_all w u x y n is high none h = none h.0 (let low = is.fits.automaton.accept h.0 h.1.0 in omega (arith, low, high)) h.1

-- what is false is not so, and what is true is
pub no_told : (P : Type 0) (b : Bool) → b ≡ false → (P → ⊥) → IsTrue b ↔ P
no_told P b e none = ((λ q. absurd (true≢false (sym q ∙ e))), (λ h. absurd (none h)))

pub yes_told : (P : Type 0) → P → IsTrue true ↔ P
yes_told P h = ((λ q. h), (λ p. refl))

-- a state that does not accept
pub not_accepting : (w : WordViewSeen) (u : View) (x y : Label) (t : ℕ) (b : Bool) → IsTrue b ↔ IsIn t w.automaton.accept → b ≡ false → IsTrue false ↔ IsYesIn w u x y t
not_accepting w u x y t b tells e = no_told (IsYesIn w u x y t) false refl (λ h. true≢false (sym (tells.1 h.0) ∙ e))

-- a state that accepts, with the verdict there
module _ (w : WordViewSeen) (u : View) (x y : Label) (t : ℕ) (v : Verdict) (h : IsVerdict w.lifted.grammar (lift_view w.automaton u) x (lift_label w.automaton.states t y) v) where
  pub yes_there : IsIn t w.automaton.accept → v ≡ Yes → IsTrue true ↔ IsYesIn w u x y t
  yes_there there e = yes_told (IsYesIn w u x y t) (there, subst (IsVerdict w.lifted.grammar (lift_view w.automaton u) x (lift_label w.automaton.states t y)) e h)

  pub other_there : (v ≡ Yes → ⊥) → IsTrue false ↔ IsYesIn w u x y t
  other_there other = no_told (IsYesIn w u x y t) false refl (λ q. other (one_verdict w.lifted.grammar (lift_view w.automaton u) x (lift_label w.automaton.states t y) v Yes h q.1))

-- bits that were written of a label in a state are those of the label in the state
pub written_in : (w : WordViewSeen) (g : Grammar) (bits new : List Bool) (at n k s : ℕ) → g ≡ w.plain.grammar → k ≡ w.automaton.states → IsLastPartOf g bits at n → new ≡ take at bits ++ gamma (in_state k s n + 1) →
    AreLiftedBits w.plain.grammar w.automaton.states s bits new
written_in w g bits new at n k s of many last is =
    subst (λ z. AreLiftedBits z w.automaton.states s bits new) of (subst (λ z. AreLiftedBits g z s bits new) many (lifted_bits g k s bits new at n last is))

-- and so those of a label of the lifted grammar
pub label_there : (w : WordViewSeen) (s : ℕ) (bits new : List Bool) → IsWordView w → s < w.automaton.states → AreLabelBits w.plain.grammar bits → AreLiftedBits w.plain.grammar w.automaton.states s bits new → AreLabelBits w.lifted.grammar new
label_there w s bits new is low label lifted = subst (λ z. AreLabelBits z new) (sym is.lifted) (lifted_label_bits w.plain.grammar w.automaton.states s bits new low label lifted)

pub is_label_there : (w : WordViewSeen) (s : ℕ) (l : Label) → IsWordView w → s < w.automaton.states → IsLabel w.plain.grammar l → IsLabel w.lifted.grammar (lift_label w.automaton.states s l)
is_label_there w s l is low h = subst (λ z. IsLabel z (lift_label w.automaton.states s l)) (sym is.lifted) (label_in w.plain.grammar w.automaton.states s l low h)

-- so where the first label is lifted into the start state, it is told whether the verdict in the lifted grammar is yes
pub lifted_told : (w : WordViewSeen) (bits new second : List Bool) → IsWordView w → AreLiftedBits w.plain.grammar w.automaton.states w.automaton.start bits new → (b : Bool) →
    OfLifted w new second (λ u x y. IsTrue b ↔ ((t : ℕ) × IsYesIn w u x y t)) → OfWords w bits second (λ u x y. IsTrue b ↔ IsLiftedYes w.plain.grammar u w.automaton x y)
lifted_told w bits new second is lifted b h u x y of hx hy ex ey =
    let there = lift_label w.automaton.states w.automaton.start x in
    let told = h u there y of.lifted (is_label_there w w.automaton.start x is is.fits.automaton.start hx) hy (lifted x hx ex) ey in
    subst (λ z. IsTrue b ↔ ((t : ℕ) × IsIn t w.automaton.accept × IsVerdict z (lift_view w.automaton u) there (lift_label w.automaton.states t y) Yes)) is.lifted
    ((λ q. let r = told.0 q in (r.0, r.1.0, r.1.1)), (λ r. told.1 (r.0, (r.1, r.2))))

-- the verdict in the lifted grammar, from the bits of both labels there
pub decided_there : (l : ViewLabelSeen) (w : WordViewSeen) → l ≡ w.lifted → (t : ℕ) (v : Verdict) (copy first new second : List Bool) → IsWordView w → t < w.automaton.states → copy ≡ first → AreLiftedBits w.plain.grammar w.automaton.states t second new →
    OfLabels l copy new (λ u x y. IsVerdict l.grammar u x y v) → OfLifted w first second (λ u x y. IsVerdict w.lifted.grammar (lift_view w.automaton u) x (lift_label w.automaton.states t y) v)
decided_there l w e t v copy first new second is low same lifted h u x y of hx hy ex ey =
    subst (λ (z : ViewLabelSeen). OfLabels z copy new (λ u x y. IsVerdict z.grammar u x y v)) e h (lift_view w.automaton u) x (lift_label w.automaton.states t y) of hx (is_label_there w t y is low hy) (same ∙ ex) (lifted y hy ey)
