-- The labels of a run are within a number of bits for each binary digit of the length of the run.
use Rattle.std.proofs.Common.{◌≢◌, ℕ, zero, suc, ◌+◌, ◌*◌, ◌^◌, ◌<◌, ◌≤◌, List, [], ◌∷◌, ◌++◌, length, sym, subst, inl, refl, arith}
use Rattle.std.proofs.lemmas.Nat.{mul-le}
use Rattle.wf_model.specs.Lists.{IsIn}
use Rattle.wf_model.specs.Grammar.{Grammar, production_at}
use Rattle.wf_model.specs.WellFormed.{IsWellFormed}
use Rattle.wf_model.specs.declared.event.Event.{Event}
use Rattle.wf_model.specs.declared.event.Event.TheVariants.{Start, Expand}
use Rattle.wf_model.specs.Run.{IsRun, IsAccepted, made}
use Rattle.wf_model.specs.Linear.{IsLinear}
use Rattle.wf_model.specs.Items.{Item}
use Rattle.wf_model.proofs.Lists.{at_below}
use Rattle.bit_pack.specs.Gamma.{digits}
use Rattle.bit_pack.proofs.Codes.{below_digits}
use Rattle.label_model.specs.Labels.{Label, OfEdge, label_bits}
use Rattle.label_model.specs.Places.{place_of}
use Rattle.label_model.specs.RunLabels.{address_in, labelled}
use Rattle.label_model.specs.Bound.{expand_events, constant_bits, cycles, bound, bits_per_digit}
use Rattle.label_model.specs.BoundLaws.{DigitsLaw}
use Rattle.label_model.proofs.LookingBack.{expand_events-append}
use Rattle.label_model.proofs.TakenEvents.{taken}
use Rattle.label_model.proofs.ItemLabels.{IsKind, an_input, an_output, of_edge, kind, label_started}
use Rattle.label_model.proofs.AcceptedLabels.{run_long}
use Rattle.label_model.proofs.LabelLengths.{digits_grow}
use Rattle.label_model.proofs.RunBounds.{input_within, output_within, edge_within_bound}

-- any bound allows 15 bits
least_bound : (g : Grammar) (n a : ℕ) → a ≤ 15 → a ≤ bound g n
unfolding bound
least_bound g n a h = omega (arith, h)

-- a larger number has no smaller bound
bound_grow : (g : Grammar) (m n : ℕ) → m ≤ n → bound g m ≤ bound g n
unfolding bound
bound_grow g m n h =
    let w : 2 * cycles g * digits m ≤ 2 * cycles g * digits n = mul-le (2 * cycles g) (digits m) (2 * cycles g) (digits n) (omega arith) (digits_grow m n h) in
    omega (arith, w)

-- a number from 1 on has a digit, so the constant bits may be counted once for each
bound_by_digits : (g : Grammar) (n : ℕ) → 0 < n → bound g n ≤ bits_per_digit g * digits n
unfolding bound
bound_by_digits g n h =
    let one : 1 ≤ digits n = some_digit (digits n) (below_digits n) in
    let w : constant_bits g * 1 ≤ constant_bits g * digits n = mul-le (constant_bits g) 1 (constant_bits g) (digits n) (omega arith) one in
    sum (constant_bits g) (2 * cycles g) (digits n) w
  where
    some_digit : (d : ℕ) → n < 2 ^ d → 1 ≤ d
    some_digit zero b = absurd (omega arith)
    some_digit (suc d) b = omega arith

    sum : (c q d : ℕ) → c * 1 ≤ c * d → c + q * d ≤ (c + q) * d
    sum c q d e = grind (arith)

-- a label of an edge of a run
of_run : (g : Grammar) → IsWellFormed g → IsLinear g → (events : List Event) → IsAccepted g (2 ^ 24) events → (i : List ℕ) (p : ℕ) (names : List (List ℕ)) → IsIn (Expand i p names) events →
    (k : ℕ) → k < length (production_at g p).edges → length (label_bits (OfEdge (place_of g g.start (address_in events i) p k))) ≤ bound g (expand_events events)
of_run g wf lin events acc i p names here k small =
    let t = taken g g.start events [] (Expand i p names) acc.0 here in
    subst (λ l. length (label_bits (OfEdge (place_of g g.start (address_in l i) p k))) ≤ bound g (expand_events l)) (sym t.is)
    (edge_within_bound g wf lin t.before t.later i p names (subst (IsAccepted g (2 ^ 24)) t.is acc) k small (expand_events (t.before ++ Expand i p names ∷ t.later)) (omega (arith, expand_events-append t.before (Expand i p names ∷ t.later))))

-- each label of a run
within_run : (g : Grammar) → IsWellFormed g → IsLinear g → (events : List Event) → IsAccepted g (2 ^ 24) events → (t : Item) (l : Label) → IsIn (t, l) (labelled g events) → length (label_bits l) ≤ bound g (expand_events events)
within_run g wf lin events acc t l h = go (kind g events acc.0 t l h)
  where
    go : IsKind g events t l → length (label_bits l) ≤ bound g (expand_events events)
    go (an_input k small a is) = subst (λ z. length (label_bits z) ≤ bound g (expand_events events)) (sym is) (least_bound g (expand_events events) _ (input_within g wf k small))
    go (an_output k small a is) = subst (λ z. length (label_bits z) ≤ bound g (expand_events events)) (sym is) (least_bound g (expand_events events) _ (output_within g wf k small))
    go (of_edge i p names here x) =
        subst (λ z. length (label_bits z) ≤ bound g (expand_events events)) (sym x.label_is) (of_run g wf lin events acc i p names here x.edge_no (at_below x.edge x.edge_no (production_at g p).edges x.at))

-- a run that has begun has more instances than expand events
more_instances : (g : Grammar) → IsWellFormed g → (events : List Event) → IsRun g g.start events → events ≢ [] → expand_events events < length (made g g.start events)
more_instances g wf [] run begun = absurd (begun refl)
more_instances g wf (Start r ∷ events) run begun = run_long g wf g.start (Start r ∷ events) (record { name = r; module_no = g.start }) run (inl refl)
more_instances g wf (Expand i p names ∷ events) run begun = absurd run.0.stands

pub digits_law : DigitsLaw
digits_law g wf lin events acc t l h =
    let b = within_run g wf lin events acc t l h in
    let n = more_instances g wf events acc.0 (label_started g events t l h) in
    let grown : bound g (expand_events events) ≤ bound g (length (made g g.start events)) = bound_grow g (expand_events events) (length (made g g.start events)) (omega (arith, n)) in
    record {
      within = b;
      expansions = λ some. omega (arith, b, bound_by_digits g (expand_events events) some);
      instances = omega (arith, b, grown, bound_by_digits g (length (made g g.start events)) (omega (arith, n)));
    }
