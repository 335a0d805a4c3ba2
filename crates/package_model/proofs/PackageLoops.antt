-- The loops of a package are good.
use Rattle.std.proofs.Common.{◌≡◌, ℕ, zero, suc, ◌+◌, ◌<◌, ◌≤◌, ◌⊎◌, Bool, true, false, cond, List, [], ◌∷◌, map, length, get_or, Option, Some, None, option_map, refl, sym, ap, ◌∙◌, subst, inl, inr, ⊎_elim, arith}
use Rattle.std.proofs.lemmas.Bool.{cases_Bool}
use Rattle.std.proofs.lemmas.List.{length-map, get_or_past}
use Rattle.wf_model.specs.Lists.{IsIn, IsAt, AllDiffer, Walk, here, onward}
use Rattle.wf_model.specs.Grammar.{Grammar, Module, module_at, IsAtomic, IsComposite}
use Rattle.wf_model.specs.WellFormed.{IsWellFormed}
use Rattle.wf_model.specs.Proper.{Makes, Derives}
use Rattle.wf_model.specs.View.{View, expands, IsSeenModule}
use Rattle.wf_model.specs.DefaultView.{default_view}
use Rattle.wf_model.specs.Linear.{IsStepOf, Continues, IsOnCycle, IsLinear}
use Rattle.wf_model.specs.Finishing.{ExpandsComposites}
use Rattle.wf_model.specs.Reach.{Step, target_of}
use Rattle.wf_model.specs.OpenRoutes.{IsOpenStep}
use Rattle.wf_model.proofs.Lists.{in_map_from, at_is, at_below, is_at}
use Rattle.wf_model.proofs.Walks.{walk-append, walk_one}
use Rattle.wf_model.proofs.Going.{same_step, step_makes, makes_goes}
use Rattle.wf_model.proofs.OpenRoutes.{step_seen}
use Rattle.label_model.specs.Continuing.{continuing}
use Rattle.label_model.proofs.ContinuingSteps.{continuing_is, continuing_law, target_continues}
use Rattle.version_model.proofs.Standing.{step_too, same_target}
use Rattle.package_model.specs.Shown.{AreSeen, place_in, placed_step, ShownModule, shown_module, shown_of}
use Rattle.package_model.specs.Packages.{module_name, LoopEntry, entry_if, package_loops, loops_of, loop_of}
use Rattle.package_model.specs.Loops.{NamesModule, HasLoop, AreLoopsOf, LoopsTo}
use Rattle.package_model.specs.Laws.{packaged, PackageLoopsLaw}
use Rattle.package_model.proofs.NumberedNames.{name_same}
use Rattle.package_model.proofs.PackageParts.{found, one_place, shown_there, count_modules, module_below, module_is, package_stands, same_production, count}
use Rattle.package_model.proofs.PackageBack.{composite_back, continues_back, step_back, production_again, shut_atomic}
use Rattle.package_model.proofs.PackageFormed.{few_seen, module_from}

-- the entry is that of a module with a loop step, where the modules are numbered from c on
abbrev IsEntryFrom : ℕ → List ShownModule → LoopEntry → Type 0
IsEntryFrom c ss e = (j : ℕ) × (t : ShownModule) × IsAt t j ss × (t.loop ≡ Some e.step) × (e.module_name ≡ module_name (c + j))

entry_from : (c : ℕ) (ss : List ShownModule) (e : LoopEntry) → IsIn e (package_loops c ss) → IsEntryFrom c ss e
entry_from c [] e h = absurd h
entry_from c (t ∷ ss) e h = go t.loop refl (entry_from (suc c) ss e) h
  where
    later : IsEntryFrom (suc c) ss e → IsEntryFrom c (t ∷ ss) e
    later r = let z : suc c + r.0 ≡ c + suc r.0 = omega arith in (suc r.0, r.1, r.2, r.3, r.4 ∙ ap module_name z)

    go : (o : Option Step) → t.loop ≡ o → (IsIn e (package_loops (suc c) ss) → IsEntryFrom (suc c) ss e) → IsIn e (entry_if c o (package_loops (suc c) ss)) → IsEntryFrom c (t ∷ ss) e
    go None q ih i = later (ih i)
    go (Some s) q ih (inl w) = let z : c ≡ c + 0 = omega arith in (0, t, refl, q ∙ ap (λ (x : LoopEntry). Some x.step) (sym w), ap (λ (x : LoopEntry). x.module_name) w ∙ ap module_name z)
    go (Some s) q ih (inr i) = later (ih i)

entry_in : (c : ℕ) (ss : List ShownModule) (j : ℕ) (t : ShownModule) (s : Step) → IsAt t j ss → t.loop ≡ Some s → IsIn (record { module_name = module_name (c + j); step = s }) (package_loops c ss)
entry_in c [] j t s h q = absurd h
entry_in c (v ∷ ss) zero t s h q =
    let z : c + 0 ≡ c = omega arith in
    subst (λ o. IsIn (record { module_name = module_name (c + 0); step = s }) (entry_if c o (package_loops (suc c) ss))) (sym (ap (λ (x : ShownModule). x.loop) (sym h) ∙ q))
    (inl (ap (λ k. record { module_name = module_name k; step = s }) z))
entry_in c (v ∷ ss) (suc j) t s h q =
    let z : suc c + j ≡ c + suc j = omega arith in
    go v.loop (subst (λ k. IsIn (record { module_name = module_name k; step = s }) (package_loops (suc c) ss)) z (entry_in (suc c) ss j t s h q))
  where
    go : (o : Option Step) → IsIn (record { module_name = module_name (c + suc j); step = s }) (package_loops (suc c) ss) → IsIn (record { module_name = module_name (c + suc j); step = s }) (entry_if c o (package_loops (suc c) ss))
    go None i = i
    go (Some x) i = inr i

once : (c : ℕ) (ss : List ShownModule) → c + length ss ≤ 1024 → AllDiffer (map (λ (e : LoopEntry). e.module_name) (package_loops c ss))
once c [] h = tt
once c (t ∷ ss) h = go t.loop (once (suc c) ss (omega arith))
  where
    not_later : IsIn (module_name c) (map (λ (e : LoopEntry). e.module_name) (package_loops (suc c) ss)) → ⊥
    not_later i =
        let m = in_map_from (λ (e : LoopEntry). e.module_name) (module_name c) (package_loops (suc c) ss) i in
        let r = entry_from (suc c) ss m.0 m.1 in
        let l = at_below r.1 r.0 ss r.2 in
        let q : c ≡ suc c + r.0 = name_same 109 c (suc c + r.0) (omega arith) (omega arith) (m.2 ∙ r.4) in
        absurd (omega arith)

    go : (o : Option Step) → AllDiffer (map (λ (e : LoopEntry). e.module_name) (package_loops (suc c) ss)) → AllDiffer (map (λ (e : LoopEntry). e.module_name) (entry_if c o (package_loops (suc c) ss)))
    go None d = d
    go (Some s) d = (not_later, d)

module _ (g : Grammar) (u : View) (ms ps : List ℕ) (ec : ExpandsComposites g u) (s : AreSeen g u ms ps) (wf : IsWellFormed g) where
  abbrev entries : List LoopEntry
  entries = loops_of (shown_of g u ms ps)

  -- a module of the grammar that the package has at a place, with its loop step
  pub record IsLoopAt (k : ℕ) (t : Step) : Type 0 where
    pub module_no : ℕ
    pub seen : IsSeenModule g u module_no
    pub place : k ≡ place_in ms module_no
    pub expanded : expands u module_no ≡ true
    pub step : Step
    pub continues : continuing g module_no ≡ Some step
    pub is : t ≡ placed_step ps step

  pub shown_loop : (m : ℕ) (t : Step) → IsSeenModule g u m → (shown_module g u ps m).loop ≡ Some t → IsLoopAt (place_in ms m) t
  shown_loop m t sm h = go (expands u m) refl h
    where
      of : expands u m ≡ true → (o : Option Step) → continuing g m ≡ o → option_map (placed_step ps) o ≡ Some t → IsLoopAt (place_in ms m) t
      of ex None q h = let z : None ≡ Some t = h in absurd (cc)
      of ex (Some x) q h = let z : Some (placed_step ps x) ≡ Some t = h in let e : placed_step ps x ≡ t = cc in record { module_no = m; seen = sm; place = refl; expanded = ex; step = x; continues = q; is = sym e }

      go : (b : Bool) → expands u m ≡ b → cond b (option_map (placed_step ps) (continuing g m)) None ≡ Some t → IsLoopAt (place_in ms m) t
      go true ex h = of ex (continuing g m) refl h
      go false ex h = let z : None ≡ Some t = h in absurd (cc)

  loop_shown : (m : ℕ) (t : Step) → expands u m ≡ true → continuing g m ≡ Some t → (shown_module g u ps m).loop ≡ Some (placed_step ps t)
  loop_shown m t ex q = ap (λ b. cond b (option_map (placed_step ps) (continuing g m)) None) ex ∙ ap (option_map (placed_step ps)) q

  -- the name of the module at a place
  name_at : (m : ℕ) → IsSeenModule g u m → (module_at (packaged g u ms ps) (place_in ms m)).name ≡ module_name (place_in ms m)
  name_at m sm = ap (λ (z : Module). z.name) (module_is g u ms ps ec s m sm)

  below_ms : (k : ℕ) → k < length (packaged g u ms ps).modules → k < length ms
  below_ms k h = subst (λ z. k < z) (count_modules g u ms ps ec s) h

  -- each module of the package is the place of a seen one
  at_place : (k : ℕ) → k < length ms → (m : ℕ) × IsSeenModule g u m × (place_in ms m ≡ k)
  at_place k h =
      let l : k < length (map (shown_module g u ps) ms) = subst (λ z. k < z) (sym (length-map ms (shown_module g u ps))) h in
      let r = module_from g u ms ps ec s wf k _ (is_at k (map (shown_module g u ps) ms) (record { ins = 0; outs = 0; pairs = None; loop = None }) l) in
      (r.0, r.1, r.4)

  loop_gives : (k : ℕ) (t : Step) → HasLoop (packaged g u ms ps) entries k t → IsLoopAt k t
  loop_gives k t h =
      let r = entry_from 0 (map (shown_module g u ps) ms) h.0 h.1 in
      let a = module_from g u ms ps ec s wf r.0 r.1 r.2 in
      let x = shown_loop a.0 t a.1 (ap (λ (z : ShownModule). z.loop) (sym a.3) ∙ (r.3 ∙ ap Some h.3)) in
      let kl = below_ms k h.2.0 in
      let p = at_place k kl in
      let few = few_seen g u ms ps ec s wf in
      let name : module_name k ≡ module_name (0 + r.0) = sym (ap (λ z. (module_at (packaged g u ms ps) z).name) (sym p.2) ∙ (name_at p.0 p.1 ∙ ap module_name p.2)) ∙ (h.2.1 ∙ r.4) in
      let l : r.0 < length ms = a.2 in
      let e : k ≡ 0 + r.0 = name_same 109 k (0 + r.0) (omega arith) (omega arith) name in
      subst (λ z. IsLoopAt z t) (a.4 ∙ sym (e ∙ (let z : 0 + r.0 ≡ r.0 = omega arith in z))) x

  pub loop_from : (m : ℕ) (t : Step) → IsSeenModule g u m → expands u m ≡ true → continuing g m ≡ Some t → HasLoop (packaged g u ms ps) entries (place_in ms m) (placed_step ps t)
  loop_from m t sm ex q =
      let z : 0 + place_in ms m ≡ place_in ms m = omega arith in (
        record { module_name = module_name (0 + place_in ms m); step = placed_step ps t },
        entry_in 0 (map (shown_module g u ps) ms) (place_in ms m) (shown_module g u ps m) (placed_step ps t) (shown_there g u ms ps ec s m sm) (loop_shown m t ex q),
        (module_below g u ms ps ec s m sm, name_at m sm ∙ ap module_name (sym z)),
        refl,
      )

  -- what is shown has the same loop steps
  pub loop_at : (m : ℕ) → IsSeenModule g u m → loop_of (shown_of g u ms ps) (place_in ms m) ≡ (shown_module g u ps m).loop
  loop_at m sm = ap (λ (z : ShownModule). z.loop) (at_is (shown_module g u ps m) (place_in ms m) (map (shown_module g u ps) ms) (record { ins = 0; outs = 0; pairs = None; loop = None }) (shown_there g u ms ps ec s m sm))

  pub loop_is : (m : ℕ) (t : Step) → IsSeenModule g u m → expands u m ≡ true → continuing g m ≡ Some t → loop_of (shown_of g u ms ps) (place_in ms m) ≡ Some (placed_step ps t)
  loop_is m t sm ex q = loop_at m sm ∙ loop_shown m t ex q

  are_loops : AreLoopsOf (packaged g u ms ps) entries (loop_of (shown_of g u ms ps))
  are_loops k t = (there, back)
    where
      dflt : ShownModule
      dflt = record { ins = 0; outs = 0; pairs = None; loop = None }

      inside : k < length ms → loop_of (shown_of g u ms ps) k ≡ Some t → HasLoop (packaged g u ms ps) entries k t
      inside h q =
          let p = at_place k h in
          let x = shown_loop p.0 t p.1 (sym (loop_at p.0 p.1) ∙ (ap (loop_of (shown_of g u ms ps)) p.2 ∙ q)) in
          subst (λ z. HasLoop (packaged g u ms ps) entries z t) p.2 (subst (λ z. HasLoop (packaged g u ms ps) entries z t) (sym x.place) (subst (HasLoop (packaged g u ms ps) entries (place_in ms x.module_no)) (sym x.is) (loop_from x.module_no x.step x.seen x.expanded x.continues)))

      there : loop_of (shown_of g u ms ps) k ≡ Some t → HasLoop (packaged g u ms ps) entries k t
      there q = ⊎_elim (λ h. inside h q) (λ h. absurd (past h q)) cases
        where
          cases : (k < length ms) ⊎ (length ms ≤ k)
          cases = grind arith

          past : length ms ≤ k → loop_of (shown_of g u ms ps) k ≡ Some t → ⊥
          past h q =
              let l : length (map (shown_module g u ps) ms) ≤ k = omega (arith, length-map ms (shown_module g u ps)) in
              let z : None ≡ Some t = sym (ap (λ (z : ShownModule). z.loop) (get_or_past (map (shown_module g u ps) ms) k dflt l)) ∙ q in
              absurd (cc)

      back : HasLoop (packaged g u ms ps) entries k t → loop_of (shown_of g u ms ps) k ≡ Some t
      back h =
          let x = loop_gives k t h in
          ap (loop_of (shown_of g u ms ps)) x.place ∙ (loop_is x.module_no x.step x.seen x.expanded x.continues ∙ ap Some (sym x.is))

  -- a continuing step of a seen module that the view expands is a step of the package
  pub open_step : (m : ℕ) (t : Step) → IsSeenModule g u m → expands u m ≡ true → IsStepOf g m t → IsOpenStep g u t
  open_step m t sm ex x = record { in_range = x.in_range; seen = subst (IsSeenModule g u) (sym x.head) sm; expanded = ap (expands u) x.head ∙ ex; position = x.position }

  pub step_up : (m : ℕ) (t : Step) → IsSeenModule g u m → expands u m ≡ true → IsStepOf g m t → IsStepOf (packaged g u ms ps) (place_in ms m) (placed_step ps t)
  step_up m t sm ex x =
      let o = step_too g u (packaged g u ms ps) (default_view (packaged g u ms ps)) (place_in ms) (place_in ps) (package_stands g u ms ps ec s) t (open_step m t sm ex x) in
      record { in_range = o.0.in_range; head = o.1 ∙ ap (place_in ms) x.head; position = o.0.position }

  pub target_up : (m : ℕ) (t : Step) → IsSeenModule g u m → expands u m ≡ true → IsStepOf g m t → target_of (packaged g u ms ps) (placed_step ps t) ≡ place_in ms (target_of g t)
  target_up m t sm ex x = same_target g u (packaged g u ms ps) (default_view (packaged g u ms ps)) (place_in ms) (place_in ps) (package_stands g u ms ps ec s) t (open_step m t sm ex x)

  pub seen_on : (m : ℕ) (t : Step) → IsSeenModule g u m → expands u m ≡ true → IsStepOf g m t → IsSeenModule g u (target_of g t)
  seen_on m t sm ex x = step_seen g u t (open_step m t sm ex x)

  -- a seen module that the view expands is composite in the package
  pub composite_up : (m : ℕ) → IsSeenModule g u m → expands u m ≡ true → IsComposite (packaged g u ms ps) (place_in ms m)
  composite_up m sm ex =
      let c = ec m ex in
      let same = same_production g u ms ps ec s c.0 (c.1.0, subst (IsSeenModule g u) (sym c.1.1) sm, ap (expands u) c.1.1 ∙ ex) in
      (place_in ps c.0, (same.in_range, same.head ∙ ap (place_in ms) c.1.1))

  names_it : (e : LoopEntry) → IsIn e entries → (k : ℕ) × NamesModule (packaged g u ms ps) e k × IsLoopAt k e.step
  names_it e i =
      let r = entry_from 0 (map (shown_module g u ps) ms) e i in
      let a = module_from g u ms ps ec s wf r.0 r.1 r.2 in
      let x = shown_loop a.0 e.step a.1 (ap (λ (z : ShownModule). z.loop) (sym a.3) ∙ r.3) in
      let z : r.0 ≡ 0 + r.0 = omega arith in
      (place_in ms a.0, (module_below g u ms ps ec s a.0 a.1, name_at a.0 a.1 ∙ (ap module_name (a.4 ∙ z) ∙ sym r.4)), x)

  steps_good : (e : LoopEntry) (k : ℕ) → IsIn e entries → NamesModule (packaged g u ms ps) e k → IsStepOf (packaged g u ms ps) k e.step
  steps_good e k i n =
      let x = loop_gives k e.step (e, i, n, refl) in
      let up = step_up x.module_no x.step x.seen x.expanded (continuing_is g x.module_no x.step x.continues).0 in
      subst (λ z. IsStepOf (packaged g u ms ps) z e.step) (sym x.place) (subst (IsStepOf (packaged g u ms ps) (place_in ms x.module_no)) (sym x.is) up)

  targets_good : (k : ℕ) (t : Step) → HasLoop (packaged g u ms ps) entries k t → IsComposite (packaged g u ms ps) (target_of (packaged g u ms ps) t) → (v : Step) × HasLoop (packaged g u ms ps) entries (target_of (packaged g u ms ps) t) v
  targets_good k t h c =
      let x = loop_gives k t h in
      let st = (continuing_is g x.module_no x.step x.continues).0 in
      let there : target_of (packaged g u ms ps) t ≡ place_in ms (target_of g x.step) = ap (target_of (packaged g u ms ps)) x.is ∙ target_up x.module_no x.step x.seen x.expanded st in
      let sees = seen_on x.module_no x.step x.seen x.expanded st in
      let b = composite_back g u ms ps ec s (target_of (packaged g u ms ps) t) c in
      let one = one_place g u ms ps ec s b.0 (target_of g x.step) b.1 sees (sym b.4 ∙ there) in
      let n = target_continues g wf x.module_no x.step x.continues in
      (placed_step ps n.0, subst (λ z. HasLoop (packaged g u ms ps) entries z (placed_step ps n.0)) (sym there) (loop_from (target_of g x.step) n.0 sees (ap (expands u) (sym one) ∙ b.2) n.1))

  module _ (linear : IsLinear g) where
    cycles_good : (k : ℕ) → IsOnCycle (packaged g u ms ps) k → (t : Step) × HasLoop (packaged g u ms ps) entries k t × Continues (packaged g u ms ps) k t
    cycles_good k c =
        let t = c.0 in
        let x = c.1.0 in
        let b = composite_back g u ms ps ec s k (t.production, (x.in_range, x.head)) in
        let m : get_or ms k 0 ≡ b.0 = ap (λ z. get_or ms z 0) b.4 ∙ found g u ms ps ec s b.0 b.1 in
        let q = (continuing_law g wf linear b.0 (step_back g u ms ps ec s t)).1 (subst (λ z. Continues g z (step_back g u ms ps ec s t)) m (continues_back g u ms ps ec s k t c.1)) in
        let again : placed_step ps (step_back g u ms ps ec s t) ≡ t = same_step _ t (production_again g u ms ps ec s t.production (subst (λ z. t.production < z) (count g u ms ps ec s) x.in_range)) refl in
        (t, subst (λ z. HasLoop (packaged g u ms ps) entries z t) (sym b.4) (subst (HasLoop (packaged g u ms ps) entries (place_in ms b.0)) again (loop_from b.0 (step_back g u ms ps ec s t) b.1 b.2 q)), c.1)

    -- loop steps lead to an atomic module, or the way to the other module is open
    abbrev EndsOr : ℕ → ℕ → Type 0
    EndsOr m n = ((k : ℕ) × Walk (LoopsTo (packaged g u ms ps) entries) (place_in ms m) k × IsAtomic (packaged g u ms ps) k) ⊎ Derives (packaged g u ms ps) (place_in ms m) (place_in ms n)

    along : {m n : ℕ} → Walk (Makes g) m n → Derives g n m → IsSeenModule g u m → EndsOr m n
    along here back sm = inr here
    along (onward {x = x} {y = y} {z = z} r w) back sm = ⊎_elim
        (λ ex. opened ex (λ sy. along w (walk-append back (walk_one r)) sy))
        (λ ex. inl (place_in ms x, here, shut_atomic g u ms ps ec s x sm ex))
        (cases_Bool (expands u x))
      where
        opened : expands u x ≡ true → (IsSeenModule g u y → EndsOr y z) → EndsOr x z
        opened ex on =
            let q = makes_goes g x y r (walk-append w back) in
            let e = (continuing_law g wf linear x q.0).1 q.1 in
            let sy : IsSeenModule g u y = subst (IsSeenModule g u) q.2 (seen_on x q.0 sm ex q.1.0) in
            let to : target_of (packaged g u ms ps) (placed_step ps q.0) ≡ place_in ms y = target_up x q.0 sm ex q.1.0 ∙ ap (place_in ms) q.2 in
            let up = step_makes (packaged g u ms ps) (place_in ms x) (placed_step ps q.0) (step_up x q.0 sm ex q.1.0) in
            ⊎_elim
            (λ a. inl (a.0, onward (placed_step ps q.0, loop_from x q.0 sm ex e, to) a.1, a.2))
            (λ d. inr (onward (subst (Makes (packaged g u ms ps) (place_in ms x)) to up) d))
            (on sy)

    ends_good : (k : ℕ) (t : Step) → HasLoop (packaged g u ms ps) entries k t → (IsOnCycle (packaged g u ms ps) k → ⊥) → (j : ℕ) × Walk (LoopsTo (packaged g u ms ps) entries) k j × IsAtomic (packaged g u ms ps) j
    ends_good k t h off =
        let x = loop_gives k t h in
        let c = continuing_is g x.module_no x.step x.continues in
        let to : target_of (packaged g u ms ps) t ≡ place_in ms (target_of g x.step) = ap (target_of (packaged g u ms ps)) x.is ∙ target_up x.module_no x.step x.seen x.expanded c.0 in
        let st : IsStepOf (packaged g u ms ps) k t = subst (IsStepOf (packaged g u ms ps) k) h.3 (steps_good h.0 k h.1 h.2) in
        ⊎_elim
        (λ a. (a.0, onward (t, h, to) a.1, a.2))
        (λ d. absurd (off (t, (st, subst (λ z. Derives (packaged g u ms ps) z k) (sym to) (subst (Derives (packaged g u ms ps) (place_in ms (target_of g x.step))) (sym x.place) d)))))
        (along c.1 (walk_one (step_makes g x.module_no x.step c.0)) (seen_on x.module_no x.step x.seen x.expanded c.0))

pub package_loops_law : PackageLoopsLaw
package_loops_law g u ms ps wf linear ec s = (
  record {
    composite = λ e i. let r = names_it g u ms ps ec s wf e i in (r.0, r.1, subst (IsComposite (packaged g u ms ps)) (sym r.2.place) (composite_up g u ms ps ec s wf r.2.module_no r.2.seen r.2.expanded));
    once = let few = few_seen g u ms ps ec s wf in once 0 (map (shown_module g u ps) ms) (omega (arith, length-map ms (shown_module g u ps)));
    steps = λ e m i n. steps_good g u ms ps ec s wf e m i n;
    targets = targets_good g u ms ps ec s wf;
    cycles = cycles_good g u ms ps ec s wf linear;
    ends = ends_good g u ms ps ec s wf linear;
  },
  are_loops g u ms ps ec s wf,
)
