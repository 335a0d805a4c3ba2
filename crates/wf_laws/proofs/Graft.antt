-- The law of grafting: the children of a graft have the given runs, so it is finished, and joins pairs, as they tell.
use Rattle.std.proofs.Common.{◌≡◌, ◌↔◌, ℕ, ◌<◌, List, [], ◌∷◌, map, length, get_or, flat_map, Option, Some, None, IsTrue, refl, sym, ap, ◌∙◌, subst, inl, inr, ⊎_elim, arith}
use Rattle.std.proofs.lemmas.List.{length-map}
use Rattle.wf_model.specs.Lists.{IsIn}
use Rattle.wf_model.specs.Grammar.{Grammar, Assignment, inputs_of, outputs_of, head_of}
use Rattle.wf_model.specs.WellFormed.{IsWellFormed}
use Rattle.wf_model.specs.View.{View, expands}
use Rattle.wf_model.specs.declared.event.Event.{Event}
use Rattle.wf_model.specs.declared.event.Event.TheVariants.{Start, Expand}
use Rattle.wf_model.specs.Run.{Instance, Expanded, IsRun, IsFinished, IsPending, made, names_of, expanded_by, seen_in, root_of, family, sub_run}
use Rattle.wf_model.specs.Links.{perceived}
use Rattle.wf_model.specs.Safe.{Joins, BodyJoins}
use Rattle.wf_model.specs.SubRun.{is_among}
use Rattle.wf_model.proofs.Lists.{among_from, in_filter}
use Rattle.wf_model.proofs.Runs.{run_state}
use Rattle.wf_laws.specs.Graft.{after_start, graft, run_at, place_module, names_at, AreRuns, AreApart, GraftLaw}
use Rattle.wf_laws.proofs.OwnRun.{skipped}
use Rattle.wf_laws.proofs.Parts.{IsParted, parts, child}
use Rattle.wf_laws.proofs.Root.{fam, kid_follows}
use Rattle.wf_laws.proofs.Safe.{KidsJoin, open_joins}
use Rattle.wf_laws.proofs.Below.{all_below, family_made, expands_made, ExpandsNone, one_below}
use Rattle.wf_laws.proofs.GraftedRuns.{begins, root_child, root_named, graft_run}

module _ (g : Grammar) (r : List ℕ) (p : ℕ) (runs : List (List Event)) (are : AreRuns g p runs) (apart : AreApart g r p runs) where
  abbrev rest : List Event
  rest = flat_map after_start runs

  begun : (k : ℕ) → k < length runs → run_at runs k ≡ Start (root_of (run_at runs k)) ∷ after_start (run_at runs k)
  begun k l = begins g (place_module g p k) (run_at runs k) (are.run k l) (are.started k l)

  -- a run expands names of its own alone
  expands_own : (j : ℕ) → j < length runs → (i : List ℕ) (q : ℕ) (new : List (List ℕ)) → IsIn (Expand i q new) (after_start (run_at runs j)) → IsIn i (names_at g p runs j)
  expands_own j l i q new h = expands_made g (place_module g p j) (run_at runs j) [] i q new (are.run j l) (subst (IsIn (Expand i q new)) (sym (begun j l)) (inr h))

  -- so it expands no names of another run
  none_of : (k : ℕ) → k < length runs → (f : List (List ℕ)) → ((n : List ℕ) → IsIn n f → IsIn n (names_at g p runs k)) → (j : ℕ) → j < length runs → (j ≡ k → ⊥) → ExpandsNone f (after_start (run_at runs j))
  none_of k lk f own j lj other i q new h at = other (apart.apart j k i lj lk (expands_own j lj i q new h) (own i at))

  root_alone : (k : ℕ) → k < length runs → (n : List ℕ) → IsIn n (root_of (run_at runs k) ∷ []) → IsIn n (names_at g p runs k)
  root_alone k l n h = ⊎_elim (λ e. subst (λ z. IsIn z (names_at g p runs k)) (sym e) (root_named g r p runs are apart k l).0) (λ a. absurd a) h

  own_run : (k : ℕ) → k < length runs → sub_run (root_of (run_at runs k)) (graft r p runs) ≡ run_at runs k
  own_run k l =
      let n = root_of (run_at runs k) in
      let after = after_start (run_at runs k) in
      let m = place_module g p k in
      let extends = (subst (IsRun g m) (begun k l) (are.run k l)).1 in
      let family_own : (c : List ℕ) → IsIn c (family (n ∷ []) after) → IsIn c (names_at g p runs k) =
      λ c h. subst (λ z. IsIn c (names_of (made g m z))) (sym (begun k l)) (family_made g m after (Start n ∷ []) (n ∷ []) (λ j q. q) extends c h) in
      let root_passed = (skipped n (Start r ∷ Expand r p (map root_of runs) ∷ []) rest ((λ e. apart.new k l (subst (λ z. IsIn z (names_at g p runs k)) (sym e) (root_named g r p runs are apart k l).0)), tt)).0 in
      ap (λ z. Start n ∷ z)
      (root_passed ∙
      (one_below (n ∷ []) runs k l (none_of k l (n ∷ []) (root_alone k l)) (none_of k l (family (n ∷ []) after) family_own) ∙
      all_below g m after (Start n ∷ []) (n ∷ []) n (inl refl) (λ j q. q) extends)) ∙
      sym (begun k l)

  run : IsRun g (head_of g p) (graft r p runs)
  run = graft_run g r p runs are apart

  module _ (wf : IsWellFormed g) (u : View) (ex : IsTrue (expands u (head_of g p))) where
    -- the run of a child, by its name in the graft
    child_run : (k : ℕ) → k < length runs → sub_run (get_or (map root_of runs) k []) (graft r p runs) ≡ run_at runs k
    child_run k l = ap (λ n. sub_run n (graft r p runs)) (root_child g r p runs are apart k l) ∙ own_run k l

    finished : ((k : ℕ) → k < length runs → IsFinished g u (place_module g p k) (run_at runs k)) → IsFinished g u (head_of g p) (graft r p runs)
    finished all i pending = ⊎_elim at_root at_child (pt.parted i ((run_state g u (head_of g p) (graft r p runs) run).seen_made i pending.0))
      where
        pt : IsParted g (head_of g p) r (record { production = p; names = map root_of runs }) (length (map root_of runs)) (graft r p runs) (λ k. family (child (map root_of runs) k ∷ []) rest)
        pt = parts g (head_of g p) r p (map root_of runs) rest run

        at_root : i ≡ record { name = r; module_no = head_of g p } → ⊥
        at_root e =
            let same : expanded_by (graft r p runs) r ≡ expanded_by (graft r p runs) i.name = ap (λ (z : Instance). expanded_by (graft r p runs) z.name) (sym e) in
            let w : ◌≡◌ {A = Option Expanded} (Some (record { production = p; names = map root_of runs })) None = sym pt.root_open ∙ (same ∙ pending.2) in absurd (cc)

        at_child : ((k : ℕ) × (k < length (map root_of runs)) × IsIn i.name (family (child (map root_of runs) k ∷ []) rest)) → ⊥
        at_child c =
            let l : c.0 < length runs = let z = c.1 in omega (arith, length-map runs root_of) in
            let tr = (kid_follows g u (perceived u) r p (map root_of runs) rest wf run ex c.0 c.1).tracks in
            let names = family (child (map root_of runs) c.0 ∷ []) (graft r p runs) in
            let among : IsIn i.name names = subst (IsIn i.name) (sym (fam g u (perceived u) r p (map root_of runs) rest wf run ex c.0 c.1)) c.2 in
            let seen = subst (IsIn i) (sym tr.seen) (in_filter (is_among names) i (seen_in g u (head_of g p) (graft r p runs)) pending.0 (among_from i.name names among)) in
            all c.0 l i (subst (λ e. IsPending g u (place_module g p c.0) e i) (child_run c.0 l) (seen, pending.1, tr.within i.name among ∙ pending.2))

    joins : (d : Assignment) → ((k : ℕ) → k < length runs → (i o : ℕ) → i < inputs_of g (place_module g p k) → o < outputs_of g (place_module g p k) → IsTrue (d (place_module g p k) i o) ↔ Joins g u (place_module g p k) (run_at runs k) i o) →
        (i o : ℕ) → BodyJoins g d p i o ↔ Joins g u (head_of g p) (graft r p runs) i o
    joins d each i o = open_joins g u (perceived u) d r p (map root_of runs) rest wf run ex kids i o
      where
        kids : KidsJoin g u (perceived u) d r p (map root_of runs) rest wf run ex
        kids k h j q hj hq =
            let l : k < length runs = omega (arith, length-map runs root_of) in
            subst (λ e. IsTrue (d (place_module g p k) j q) ↔ Joins g u (place_module g p k) e j q) (sym (child_run k l)) (each k l j q hj hq)

pub graft_law : GraftLaw
graft_law g r p runs wf are apart = record {
  run = graft_run g r p runs are apart;
  own_runs = own_run g r p runs are apart;
  finished = λ u ex. finished g r p runs are apart wf u ex;
  joins = λ u d ex. joins g r p runs are apart wf u ex d;
}
