-- A label in a state tells in the lifted grammar what the label tells: it is hidden, and clashes, as before.
use Rattle.std.proofs.Common.{◌≡◌, ◌↔◌, ℕ, ◌<◌, List, sym, ap, ◌∙◌, subst}
use Rattle.std.proofs.lemmas.Nat.{same_from_place}
use Rattle.wf_model.specs.Grammar.{Grammar}
use Rattle.wf_model.specs.WellFormed.{IsWellFormed}
use Rattle.wf_model.specs.View.{View, expands}
use Rattle.wf_model.specs.Reach.{Step, module_along}
use Rattle.label_model.specs.Labels.{Label, Input, Output, OfEdge, IsLabel}
use Rattle.verdict_model.specs.Telling.{Tells, Names}
use Rattle.verdict_model.specs.Verdicts.{IsHidden, AreClashing}
use Rattle.verdict_model.proofs.LabelsTold.{telling_law, input_untold, output_untold}
use Rattle.words_model.specs.Automata.{Automaton}
use Rattle.words_model.specs.Lifting.{in_state, lift, lift_view, lift_label}
use Rattle.words_model.specs.Laws.{LiftedLabelLaw}
use Rattle.words_model.proofs.LiftedParts.{lifted_shape}
use Rattle.words_model.proofs.LiftedGrammars.{lifted_formed}
use Rattle.words_model.proofs.SameContinuing.{along_same, place_same}
use Rattle.words_model.proofs.LiftedLabels.{ending_in, label_in}

module _ (g : Grammar) (k s : ℕ) (hs : s < k) where
  pub tells_in : (l : Label) (a : List Step) (p e : ℕ) → Tells g l a p e → Tells (lift g k) (lift_label k s l) a p (in_state k s e)
  tells_in l a p e h = record {
    ending = ending_in g k a p s e hs h.ending;
    is = ap (lift_label k s) h.is ∙ ap OfEdge (sym (place_same g (lift g k) (lifted_shape g k) g.start a p (in_state k s e)));
  }

  names_in : (l : Label) (c : List Step) (r : ℕ) → Names g l c r → Names (lift g k) (lift_label k s l) c r
  names_in l c r n = (n.0, n.1, in_state k s n.2, tells_in l n.0 n.1 n.2 n.3, n.4)

  module _ (wf : IsWellFormed g) (wf2 : IsWellFormed (lift g k)) where
    -- what is told in the lifted grammar is told of an edge in the state
    pub told_from : (l : Label) → IsLabel g l → (a : List Step) (p f : ℕ) → Tells (lift g k) (lift_label k s l) a p f → (e : ℕ) × Tells g l a p e × (f ≡ in_state k s e)
    told_from (Input n) h a p f x = absurd (input_untold (lift g k) (in_state k s n) a p f x)
    told_from (Output n) h a p f x = absurd (output_untold (lift g k) (in_state k s n) a p f x)
    told_from (OfEdge q) h a p f x =
        let r = (telling_law g wf).each q h in
        let one = (telling_law (lift g k) wf2).one (lift_label k s (OfEdge q)) r.0 a r.1 p (in_state k s r.2) f (tells_in (OfEdge q) r.0 r.1 r.2 r.3) x in
        (r.2, subst (λ z. Tells g (OfEdge q) a z r.2) one.1 (subst (λ z. Tells g (OfEdge q) z r.1 r.2) one.0 r.3), sym one.2)

    names_from : (l : Label) → IsLabel g l → (c : List Step) (r : ℕ) → Names (lift g k) (lift_label k s l) c r → Names g l c r
    names_from l h c r n = let q = told_from l h n.0 n.1 n.2 n.3 in (n.0, n.1, q.0, q.1, n.4)

    tells_same : (l : Label) → IsLabel g l → (a : List Step) (p e : ℕ) → Tells g l a p e ↔ Tells (lift g k) (lift_label k s l) a p (in_state k s e)
    tells_same l h a p e = (
      tells_in l a p e,
      (λ x. let q = told_from l h a p (in_state k s e) x in
          subst (Tells g l a p) (sym (same_from_place e s q.0 s k hs hs q.2).0) q.1),
    )

module _ (g : Grammar) (u : View) (a : Automaton) (wf : IsWellFormed g) (wf2 : IsWellFormed (lift g a.states)) where
  expanded_lifted : (c : List Step) → expands u (module_along (lift g a.states) g.start c) ≡ expands u (module_along g g.start c)
  expanded_lifted c = ap (expands u) (along_same g (lift g a.states) (lifted_shape g a.states) g.start c)

  pub hidden_same : (s : ℕ) → s < a.states → (l : Label) → IsLabel g l → IsHidden g u l ↔ IsHidden (lift g a.states) (lift_view a u) (lift_label a.states s l)
  hidden_same s hs l h = (
    (λ q. (q.0, q.1, names_in g a.states s hs l q.0 q.1 q.2, expanded_lifted q.0 ∙ q.3)),
    (λ q. (q.0, q.1, names_from g a.states s hs wf wf2 l h q.0 q.1 q.2, sym (expanded_lifted q.0) ∙ q.3)),
  )

  pub clash_same : (x y : Label) → IsLabel g x → IsLabel g y → (s t : ℕ) → s < a.states → t < a.states → AreClashing g x y ↔ AreClashing (lift g a.states) (lift_label a.states s x) (lift_label a.states t y)
  clash_same x y hx hy s t hs ht = (
    (λ q. (q.0, q.1, q.2, names_in g a.states s hs x q.0 q.1 q.3, names_in g a.states t ht y q.0 q.2 q.4, q.5)),
    (λ q. (q.0, q.1, q.2, names_from g a.states s hs wf wf2 x hx q.0 q.1 q.3, names_from g a.states t ht wf wf2 y hy q.0 q.2 q.4, q.5)),
  )

pub lifted_label_law : LiftedLabelLaw
lifted_label_law g u a wf fits x y hx hy s t hs ht =
    let wf2 = lifted_formed g a wf fits in
    record {
      one = record { label = label_in g a.states s x hs hx; tells = tells_same g a.states s hs wf wf2 x hx; hidden = hidden_same g u a wf wf2 s hs x hx };
      clash = clash_same g u a wf wf2 x y hx hy s t hs ht;
    }
