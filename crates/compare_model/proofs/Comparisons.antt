-- The comparison of two views comes to one thing.
use Rattle.std.proofs.Common.{true, false, ◌≡◌, ℕ, ◌<◌, List, length, refl, sym, ap, ◌∙◌, subst, ⊎_elim}
use Rattle.std.specs.Cmp.Derive.{one_truth}
use Rattle.compare_model.specs.Routes.{IsFirstShortestRoute}
use Rattle.wf_model.specs.Grammar.{Grammar, Assignment, inputs_of, outputs_of}
use Rattle.wf_model.specs.View.{View, expands, shows, IsSeenModule}
use Rattle.wf_model.specs.Safe.{IsFull, IsInduced}
use Rattle.wf_model.specs.declared.event.Event.{Event}
use Rattle.wf_model.proofs.Deciding.{Either, below_either, either_both, either_same}
use Rattle.wf_laws.proofs.Full.{full_law}
use Rattle.wf_laws.proofs.SeenOrNot.{seen_either}
use Rattle.compare_model.specs.declared.compared.Compared.{Compared}
use Rattle.compare_model.specs.declared.compared.Compared.TheVariants.{Denied, Extra, Exact}
use Rattle.compare_model.specs.Pairs.{ModulePair, IsBorderPair, IsDenied, IsAdded}
use Rattle.compare_model.specs.Comparison.{pair_of, IsShownBy, IsCompared}
use Rattle.compare_model.specs.Laws.{AreCompared}
use Rattle.compare_model.specs.OutcomeLaws.{SomeOutcomeLaw, OneOutcomeLaw}
use Rattle.compare_model.proofs.MorePairs.{HasAll}
use Rattle.compare_model.proofs.Agreement.{all_seen}
use Rattle.compare_model.proofs.SeenByBoth.{modules_too}
use Rattle.compare_model.proofs.FirstPairs.{one_first, first_pair}
use Rattle.compare_model.proofs.FirstRoutes.{seen_route, some_shortest, one_shortest}
use Rattle.compare_model.proofs.ShortRoutes.{leads_in_range}
use Rattle.compare_model.proofs.Coarseness.{truth_either}
use Rattle.compare_model.specs.RunAlong.{run_along, name_along}

module _ (g : Grammar) (c : View) (d : Assignment) where
  border_either : (x : ModulePair) → Either (IsBorderPair g c x)
  border_either x = either_same
      (λ h. record { border = h.0; input_there = h.1.0; output_there = h.1.1 })
      (λ h. (h.border, (h.input_there, h.output_there)))
      (either_both (either_both (seen_either g c x.module_no) (truth_either (expands c x.module_no) false)) (either_both (below_either x.input (inputs_of g x.module_no)) (below_either x.output (outputs_of g x.module_no))))

  denied_either : (x : ModulePair) → Either (IsDenied g c d x)
  denied_either x = either_same
      (λ h. record { pair = h.0; fine = h.1.0; coarse = h.1.1 })
      (λ h. (h.pair, (h.fine, h.coarse)))
      (either_both (border_either x) (either_both (truth_either (d x.module_no x.input x.output) true) (truth_either (shows c x.module_no x.input x.output) false)))

  added_either : (x : ModulePair) → Either (IsAdded g c d x)
  added_either x = either_same
      (λ h. record { pair = h.0; fine = h.1.0; coarse = h.1.1 })
      (λ h. (h.pair, (h.fine, h.coarse)))
      (either_both (border_either x) (either_both (truth_either (d x.module_no x.input x.output) false) (truth_either (shows c x.module_no x.input x.output) true)))

-- a seen module has a run that shows it
shown_by : (g : Grammar) (c : View) (m : ℕ) → IsSeenModule g c m → (instance : List ℕ) × (events : List Event) × IsShownBy g c m instance events
shown_by g c m seen =
    let a = seen_route g c m seen in
    let f = some_shortest g c m a.0 a.1 in
    (name_along g f.0, run_along g f.0, record { route = f.0; shortest = f.1; instance_is = refl; run_is = refl })

pub some_outcome_law : SomeOutcomeLaw
some_outcome_law g c u d p = ⊎_elim
    (λ x.
    let s = shown_by g c x.0.module_no x.1.0.pair.border.0 in
    (Denied (record { 0 = x.0.module_no }) (record { 0 = x.0.input }) (record { 0 = x.0.output }) s.0 s.1, (x.1, s.2)))
    (λ none. ⊎_elim
    (λ x. (Extra (record { 0 = x.0.module_no }) (record { 0 = x.0.input }) (record { 0 = x.0.output }), (none, x.1)))
    (λ no. (Exact, (none, no)))
    (first_pair (IsAdded g c d) (added_either g c d) (length g.modules) (inputs_of g) (outputs_of g) (λ x h. within x h.pair)))
    (first_pair (IsDenied g c d) (denied_either g c d) (length g.modules) (inputs_of g) (outputs_of g) (λ x h. within x h.pair))
  where
    within : (x : ModulePair) → IsBorderPair g c x → (x.module_no < length g.modules) × (x.input < inputs_of g x.module_no) × (x.output < outputs_of g x.module_no)
    within x h = (let r = seen_route g c x.module_no h.border.0 in subst (λ z. z < length g.modules) r.1.1 (leads_in_range g c p.formed r.0 r.1.0), h.input_there, h.output_there)

-- assignments with the same pairs at the border: what is denied or added by the one is so by the other
module _ (g : Grammar) (c : View) (a b : Assignment) (same : (x : ModulePair) → IsBorderPair g c x → a x.module_no x.input x.output ≡ b x.module_no x.input x.output) where
  denied_by : (x : ModulePair) → IsDenied g c a x → IsDenied g c b x
  denied_by x h = record { pair = h.pair; fine = sym (same x h.pair) ∙ h.fine; coarse = h.coarse }

  added_by : (x : ModulePair) → IsAdded g c a x → IsAdded g c b x
  added_by x h = record { pair = h.pair; fine = sym (same x h.pair) ∙ h.fine; coarse = h.coarse }

-- two full assignments of a view have the same pairs of what it sees
module _ (g : Grammar) (c u : View) (d e : Assignment) (p : AreCompared g c u d) (full : IsFull g u e) where
  of_d : IsInduced g u d
  of_d = (full_law g u d p.formed p.proper p.fine_composites).0 p.full

  of_e : IsInduced g u e
  of_e = (full_law g u e p.formed p.proper p.fine_composites).0 full

  all_of : (a b : Assignment) → IsInduced g u a → IsInduced g u b → (m : ℕ) → IsSeenModule g u m → HasAll g a b m
  all_of a b of_a of_b = all_seen g u p.fine_composites p.proper a b of_a.induced of_b.induced (λ m s ex i o hi ho t. of_b.shown m s ex i o hi ho ∙ (sym (of_a.shown m s ex i o hi ho) ∙ t))

  same_pair : (x : ModulePair) → IsBorderPair g c x → d x.module_no x.input x.output ≡ e x.module_no x.input x.output
  same_pair x h =
      let s = modules_too g c u p.coarser x.module_no h.border.0 in
      one_truth (d x.module_no x.input x.output) (e x.module_no x.input x.output) (all_of d e of_d of_e x.module_no s x.input x.output h.input_there h.output_there) (all_of e d of_e of_d x.module_no s x.input x.output h.input_there h.output_there)

  back_pair : (x : ModulePair) → IsBorderPair g c x → e x.module_no x.input x.output ≡ d x.module_no x.input x.output
  back_pair x h = sym (same_pair x h)

  -- so the comparison comes to the same by both
  pub compared_too : (v : Compared) → IsCompared g c e v → IsCompared g c d v
  compared_too (Denied m i o n events) h = ((denied_by g c e d back_pair (pair_of m i o) h.0.0, λ y q. h.0.1 y (denied_by g c d e same_pair y q)), h.1)
  compared_too (Extra m i o) h = ((λ x q. h.0 x (denied_by g c d e same_pair x q)), (added_by g c e d back_pair (pair_of m i o) h.1.0, λ y q. h.1.1 y (added_by g c d e same_pair y q)))
  compared_too Exact h = ((λ x q. h.0 x (denied_by g c d e same_pair x q)), (λ x q. h.1 x (added_by g c d e same_pair x q)))

module _ (g : Grammar) (c : View) where
  same_shown : (m k : ℕ) (n l : List ℕ) (a b : List Event) → m ≡ k → IsShownBy g c m n a → IsShownBy g c k l b → (n ≡ l) × (a ≡ b)
  same_shown m k n l a b e p q =
      let one = one_shortest g c m p.route q.route p.shortest (subst (λ z. IsFirstShortestRoute g c z q.route) (sym e) q.shortest) in
      (p.instance_is ∙ (ap (name_along g) one ∙ sym q.instance_is), p.run_is ∙ (ap (run_along g) one ∙ sym q.run_is))

  one_outcome : (d : Assignment) (v w : Compared) → IsCompared g c d v → IsCompared g c d w → v ≡ w
  one_outcome d (Denied m i o n a) (Denied k j q l b) x y =
      let same = one_first (IsDenied g c d) (pair_of m i o) (pair_of k j q) x.0 y.0 in
      let run = same_shown m.0 k.0 n l a b (ap (λ (z : ModulePair). z.module_no) same) x.1 y.1 in
      λ t. Denied (record { 0 = (same t).module_no }) (record { 0 = (same t).input }) (record { 0 = (same t).output }) (run.0 t) (run.1 t)
  one_outcome d (Denied m i o n a) (Extra k j q) x y = absurd (y.0 (pair_of m i o) x.0.0)
  one_outcome d (Denied m i o n a) Exact x y = absurd (y.0 (pair_of m i o) x.0.0)
  one_outcome d (Extra m i o) (Denied k j q l b) x y = absurd (x.0 (pair_of k j q) y.0.0)
  one_outcome d (Extra m i o) (Extra k j q) x y =
      let same = one_first (IsAdded g c d) (pair_of m i o) (pair_of k j q) x.1 y.1 in
      λ t. Extra (record { 0 = (same t).module_no }) (record { 0 = (same t).input }) (record { 0 = (same t).output })
  one_outcome d (Extra m i o) Exact x y = absurd (y.1 (pair_of m i o) x.1.0)
  one_outcome d Exact (Denied k j q l b) x y = absurd (x.0 (pair_of k j q) y.0.0)
  one_outcome d Exact (Extra k j q) x y = absurd (x.1 (pair_of k j q) y.1.0)
  one_outcome d Exact Exact x y = refl

pub one_outcome_law : OneOutcomeLaw
one_outcome_law g c u d e p full v w x y = one_outcome g c d v w x (compared_too g c u d e p full w y)
