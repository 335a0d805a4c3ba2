-- The full assignment of a view: it is what every production induces, and a safe view has one.
use Rattle.wf_laws.specs.Graft.{place_module}
use Rattle.std.proofs.Common.{◌≡◌, ℕ, ◌<◌, ◌↔◌, Bool, true, false, IsTrue, List, [], ◌∷◌, length, refl, sym, ap, ◌∙◌, subst, inl, inr, ⊎_elim, arith, true≢false}
use Rattle.std.specs.Cmp.Derive.{one_truth}
use Rattle.wf_model.specs.Grammar.{Grammar, Assignment, inputs_of, outputs_of, head_of, body_of}
use Rattle.wf_model.specs.WellFormed.{IsWellFormed}
use Rattle.wf_model.specs.View.{View, expands, shows, IsSeenModule, in_body}
use Rattle.wf_model.specs.declared.event.Event.{Event}
use Rattle.wf_model.specs.declared.event.Event.TheVariants.{Start, Expand}
use Rattle.wf_model.specs.Run.{Instance, CanExpand, IsRun}
use Rattle.wf_model.specs.Links.{input, output, links, perceived, Path}
use Rattle.wf_model.specs.Safe.{IsExpansion, IsSafe, IsFull, BodyJoins, Joins}
use Rattle.wf_model.specs.Proper.{IsProper}
use Rattle.wf_model.specs.Finishing.{ExpandsComposites}
use Rattle.wf_model.proofs.Lists.{at_in, is_at}
use Rattle.wf_laws.specs.Views.{FullLaw, SafeFullLaw}
use Rattle.wf_laws.proofs.Parts.{opened_run}
use Rattle.wf_laws.proofs.Root.{kid_run, kid_law}
use Rattle.wf_laws.proofs.Safe.{KidsJoin, open_joins, bare_links, pairs_join, perceived_shown, one_test_suffices}
use Rattle.wf_laws.proofs.Growth.{finishing}
use Rattle.wf_laws.proofs.Making.{first_name, first_is_name}
use Rattle.wf_laws.proofs.Routes.{fresh_for, can_fresh}
use Rattle.wf_model.proofs.Deciding.{Either, is_so, so_gives, so_from, bytes_either}
use Rattle.wf_laws.proofs.PathTests.{path_either}

-- a run of a start event alone
start_run : (g : Grammar) (m : ℕ) → IsRun g m (Start first_name ∷ [])
start_run g m = ((refl, first_is_name), tt)

-- some expansion of a module: a finishing of the start event
abbrev expansion_events : (g : Grammar) (u : View) → IsProper g → ExpandsComposites g u → ℕ → List Event
expansion_events g u proper ec m = Start first_name ∷ (finishing g u proper ec m (Start first_name ∷ []) (start_run g m)).0

module _ (g : Grammar) (u : View) (d : Assignment) (wf : IsWellFormed g) (proper : IsProper g) (ec : ExpandsComposites g u) (full : IsFull g u d) where
  -- a module that is not expanded is its own expansion
  shut : (m : ℕ) → IsSeenModule g u m → expands u m ≡ false → (i o : ℕ) → i < inputs_of g m → o < outputs_of g m → IsTrue (d m i o) ↔ IsTrue (shows u m i o)
  shut m s ex i o hi ho =
      let x : IsExpansion g u m (Start first_name ∷ []) = record { run = start_run g m; started = λ q. (cc); finished = λ j p. ⊎_elim (λ q. true≢false (sym p.1 ∙ (ap (λ (z : Instance). expands u z.module_no) q ∙ ex))) (λ q. q) p.0 } in
      let f = full m s (Start first_name ∷ []) x i o hi ho in
      let pj = pairs_join g (perceived u) m first_name i o hi ho in
      let eq = perceived_shown u m i o ex in
      let ls = bare_links g u (perceived u) m first_name in (
        (λ t. sym eq ∙ pj.1 (subst (λ l. Path l (input first_name i) (output first_name o)) ls (f.0 t))),
        (λ t. f.1 (subst (λ l. Path l (input first_name i) (output first_name o)) (sym ls) (pj.0 (eq ∙ t)))),
      )

  -- a production begins an expansion, and the runs of the children are expansions too
  opened : (p : ℕ) → p < length g.productions → IsSeenModule g u (head_of g p) → IsTrue (expands u (head_of g p)) → (i o : ℕ) → i < inputs_of g (head_of g p) → o < outputs_of g (head_of g p) → IsTrue (d (head_of g p) i o) ↔ BodyJoins g d p i o
  opened p hp s ex i o hi ho =
      let m = head_of g p in
      let names = fresh_for g m (Start first_name ∷ []) p in
      let can : CanExpand g m (Start first_name ∷ []) first_name p names = can_fresh g m (Start first_name ∷ []) (record { name = first_name; module_no = m }) p hp refl (inl refl) refl in
      let begun : IsRun g m (Start first_name ∷ Expand first_name p names ∷ []) = ((start_run g m).0, (can, tt)) in
      let fin = finishing g u proper ec m (Start first_name ∷ Expand first_name p names ∷ []) begun in
      let rest = fin.0 in
      let x : IsExpansion g u (head_of g p) (opened_run first_name p (fresh_for g (head_of g p) (Start first_name ∷ []) p) fin.0) = record { run = fin.1.run; started = λ q. (cc); finished = fin.1.finished } in
      let kids : KidsJoin g u (perceived u) d first_name p names rest wf x.run ex =
      λ k hk i o hi ho.
      let law = kid_law g u (perceived u) first_name p names rest wf x.run ex k hk in
      let hb : k < length (body_of g p) = omega (arith, can.one_each) in
      full (place_module g p k) (in_body p hp s ex (at_in _ k (body_of g p) (is_at k (body_of g p) 0 hb))) (kid_run names (opened_run first_name p names rest) k)
      (record { run = law.run; started = λ q. (cc); finished = law.finished x.finished }) i o hi ho in
      let oj = open_joins g u (perceived u) d first_name p names rest wf x.run ex kids i o in
      let f = full m s (opened_run first_name p names rest) x i o hi ho in
      ((λ t. oj.1 (f.0 t)), (λ w. f.1 (oj.0 w)))

pub full_law : FullLaw
full_law g u d wf proper ec = (
  (λ full. record {
    shown = λ m s ex i o hi ho. let q = shut g u d wf proper ec full m s ex i o hi ho in one_truth (d m i o) (shows u m i o) q.0 q.1;
    induced = λ p hp s ex i o hi ho. opened g u d wf proper ec full p hp s ex i o hi ho;
  }),
  (λ ind. one_test_suffices g u d wf ind),
)

module _ (g : Grammar) (u : View) (proper : IsProper g) (ec : ExpandsComposites g u) where
  some_expansion : (m : ℕ) → IsExpansion g u m (expansion_events g u proper ec m)
  some_expansion m =
      let fin = finishing g u proper ec m (Start first_name ∷ []) (start_run g m) in
      record { run = fin.1.run; started = λ q. (cc); finished = fin.1.finished }

  -- whether some expansion joins an input to an output
  joined_in_one : (m i o : ℕ) → Either (Joins g u m (expansion_events g u proper ec m) i o)
  joined_in_one m i o = path_either bytes_either (links g u m (expansion_events g u proper ec m)) (input first_name i) (output first_name o)

  -- the pairs that some expansion joins
  abbrev pairs_of_one : Assignment
  pairs_of_one m i o = is_so (joined_in_one m i o)

  one_is_full : IsSafe g u → IsFull g u pairs_of_one
  one_is_full safe m s e x i o hi ho = (
    (λ t. safe m s (expansion_events g u proper ec m) e (some_expansion m) x i o hi ho (so_gives (joined_in_one m i o) t)),
    (λ w. so_from (joined_in_one m i o) (safe m s e (expansion_events g u proper ec m) x (some_expansion m) i o hi ho w)),
  )

pub safe_full_law : SafeFullLaw
safe_full_law g u wf proper ec safe = (pairs_of_one g u proper ec, one_is_full g u proper ec safe)
