-- What two draws pick: a pending instance, and a production of its module.
use Rattle.std.proofs.Common.{◌≡◌, ℕ, ◌/◌, ◌%◌, ◌<◌, Bool, true, false, ◌==◌, List, map, length, get_or, Option, Some, None, refl, ap, ◌∙◌, arith}
use Rattle.std.specs.Prelude.{option_map}
use Rattle.std.proofs.lemmas.Bool.{eq-eqb}
use Rattle.std.proofs.lemmas.Nat.{mod_below}
use Rattle.std.proofs.lemmas.List.{length-map}
use Rattle.wf_model.specs.declared.numbers.ProdNo.{ProdNo}
use Rattle.wf_model.specs.Lists.{numbers_from}
use Rattle.wf_model.specs.Grammar.{Grammar, head_of, IsComposite, IsProductionOf}
use Rattle.wf_model.specs.WellFormed.{IsWellFormed}
use Rattle.wf_model.specs.Reach.{Step}
use Rattle.wf_model.specs.Linear.{IsLinear}
use Rattle.wf_model.proofs.Lists.{at_in, is_at, in_map, in_filter}
use Rattle.wf_model.proofs.Level.{numbers_in}
use Rattle.wf_model.proofs.Positions.{has_length}
use Rattle.wf_spec.specs.Tables.{productions_of}
use Rattle.label_model.specs.Continuing.{continuing}
use Rattle.label_model.proofs.ContinuingSteps.{continuing_is}
use Rattle.wf_recur.specs.Cycles.{CyclesSeen, OnSeen, AreCyclesOf}
use Rattle.wf_recur.proofs.Places.{step_told}
use Rattle.wf_spec.proofs.Heads.{headed_gives}
use Rattle.wf_gen.specs.declared.pending.Pending.{Pending as PendingHeld}
use Rattle.wf_gen.specs.Turns.{alternative_picked, production_by}
use Rattle.wf_gen.specs.Held.{AreComposite, pending_of, all_pending}

module _ (g : Grammar) (m : ℕ) where
  -- a composite module has a production
  pub some_production : IsComposite g m → 0 < length (productions_of g m)
  some_production c =
      let l : c.0 < length g.productions = c.1.0 in
      has_length c.0 (productions_of g m) (in_filter (λ p. head_of g p == m) c.0 (numbers_from 0 (length g.productions)) (numbers_in c.0 0 (length g.productions) (omega arith) (omega arith)) (eq-eqb (head_of g c.0) m c.1.1))

  alternative_fits : (e : ℕ) → IsComposite g m → IsProductionOf g (alternative_picked g m e) m
  alternative_fits e c =
      let k = e / 4 % length (productions_of g m) in
      let l : e / 4 % length (productions_of g m) < length (productions_of g m) = mod_below (e / 4) (length (productions_of g m)) (some_production c) in
      headed_gives g m (alternative_picked g m e) (at_in (alternative_picked g m e) (e / 4 % length (productions_of g m)) (productions_of g m) (is_at (e / 4 % length (productions_of g m)) (productions_of g m) 0 l))

  -- the production that is picked is one of the module
  pub production_fits : (stays : Bool) (e : ℕ) → IsComposite g m → IsProductionOf g (production_by (continuing g m) stays (alternative_picked g m e)) m
  production_fits stays e c = go (continuing g m) refl stays
    where
      go : (o : Option Step) → continuing g m ≡ o → (b : Bool) → IsProductionOf g (production_by o b (alternative_picked g m e)) m
      go None q b = alternative_fits e c
      go (Some s) q false = alternative_fits e c
      go (Some s) q true = let r = continuing_is g m s q in (r.0.in_range, r.0.head)

-- the instance that is picked is of a composite module
pub picked_composite : (g : Grammar) (xs : List PendingHeld) (d : ℕ) (x : PendingHeld) → AreComposite g (all_pending xs) → 0 < length xs →
    ((pending_of (get_or xs (d % length xs) x)).module_no < length g.modules) × IsComposite g (pending_of (get_or xs (d % length xs) x)).module_no
picked_composite g xs d x all some =
    all (pending_of (get_or xs (d % length xs) x)) (in_map pending_of (get_or xs (d % length xs) x) xs (at_in (get_or xs (d % length xs) x) (d % length xs) xs (is_at (d % length xs) xs x (mod_below d (length xs) some))))

-- the program's list of them is not empty
pub some_listed : (g : Grammar) (m : ℕ) (all : List ProdNo) → map (λ (p : ProdNo). p.0) all ≡ productions_of g m → IsComposite g m → 0 < length all
some_listed g m all same c =
    let some = some_production g m c in
    let len : length (map (λ (p : ProdNo). p.0) all) ≡ length (productions_of g m) = ap length same in
    omega (arith, some, len, length-map all (λ (p : ProdNo). p.0))

-- what a table tells of a module, read of its continuing step
pub production_told : (g : Grammar) (c : CyclesSeen) → IsWellFormed g → IsLinear g → AreCyclesOf g c → (m : ℕ) → m < length g.modules → (o : Option OnSeen) → o ≡ get_or c.on m None →
    option_map (λ (s : OnSeen). s.step.production) o ≡ option_map (λ (s : Step). s.production) (continuing g m)
production_told g c formed linear cycles m below o read =
    by o ∙ ap (option_map (λ (s : Step). s.production)) (ap (option_map (λ (s : OnSeen). s.step)) read ∙ step_told g c formed linear cycles m below)
  where
    by : (o : Option OnSeen) → option_map (λ (s : OnSeen). s.step.production) o ≡ option_map (λ (s : Step). s.production) (option_map (λ (s : OnSeen). s.step) o)
    by None = refl
    by (Some s) = refl
