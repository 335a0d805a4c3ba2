-- What expansions by a choice of productions tell of the modules that are settled, and the pairs that they join.
use Rattle.wf_laws.specs.Graft.{place_module}
use Rattle.std.proofs.Common.{◌≡◌, ℕ, zero, suc, ◌<◌, ◌≤◌, ◌↔◌, Bool, true, false, IsTrue, List, [], ◌∷◌, length, Some, refl, sym, ap, ◌∙◌, subst, inl, arith}
use Rattle.wf_model.specs.Lists.{IsIn}
use Rattle.wf_model.specs.Grammar.{Grammar, Assignment, inputs_of, outputs_of, head_of, body_of}
use Rattle.wf_model.specs.WellFormed.{IsWellFormed}
use Rattle.wf_model.specs.View.{View, expands, IsSeenModule, in_body}
use Rattle.wf_model.specs.declared.event.Event.{Event}
use Rattle.wf_model.specs.Run.{Expanded, expanded_by, seen_in, family, sub_run, root_of}
use Rattle.wf_model.specs.Links.{perceived}
use Rattle.wf_model.specs.Safe.{IsExpansion, Joins, BodyJoins, IsBy, IsInducedBy, IsChosen}
use Rattle.wf_model.proofs.Lists.{in_at, at_in, at_below, at_is, is_at}
use Rattle.wf_laws.specs.Chosen.{IsByOther}
use Rattle.wf_laws.specs.Settled.{IsSettled, IsSettledBody, IsInducedWhereSettled, SettledLaw}
use Rattle.wf_laws.proofs.OwnRun.{follows}
use Rattle.wf_laws.proofs.Parts.{child, opened_run, in_family}
use Rattle.wf_laws.proofs.Root.{kid_run, kid, kid_seen, root_apart, root_seen}
use Rattle.wf_laws.proofs.Expansions.{root_told, when_open, kid_shorter, own_expansion, own_by}
use Rattle.wf_laws.proofs.Safe.{KidsJoin, open_joins, agrees, passes_by, filled_expansion}
use Rattle.wf_laws.proofs.Making.{settled_from, chosen_run, other_run}

-- the production by which an opened run tells that its root is expanded
same_production : (r : List ℕ) (p : ℕ) (names : List (List ℕ)) (rest : List Event) (x : Expanded) → expanded_by (opened_run r p names rest) r ≡ Some x → p ≡ x.production
same_production r p names rest x h =
    let z : Some (record { production = p; names = names }) ≡ Some x = sym (root_told r p names rest) ∙ h in
    let e : ◌≡◌ {A = Expanded} (record { production = p; names = names }) x = cc in
    ap (λ (y : Expanded). y.production) e

module _ (g : Grammar) (u : View) (Chosen : ℕ → ℕ → Type 0) (wf : IsWellFormed g) where
  module _ (r : List ℕ) (p : ℕ) (names : List (List ℕ)) (rest : List Event) (x : IsExpansion g u (head_of g p) (opened_run r p names rest)) (ex : expands u (head_of g p) ≡ true) where
    -- the children's runs are by chosen productions
    abbrev KidsBy : Type 0
    KidsBy = (k : ℕ) → k < length names → IsBy g u (place_module g p k) Chosen (kid_run names (opened_run r p names rest) k)

    kid_there : (k : ℕ) → k < length names → IsIn (kid g p names k) (seen_in g u (head_of g p) (opened_run r p names rest))
    kid_there k hk = kid_seen g u (perceived u) r p names rest wf x.run ex k hk

    kid_expansion : (k : ℕ) → k < length names → IsExpansion g u (place_module g p k) (kid_run names (opened_run r p names rest) k)
    kid_expansion k hk = own_expansion g u (head_of g p) (opened_run r p names rest) (kid g p names k) x (kid_there k hk)

    -- where the whole is by chosen productions
    by_whole : IsBy g u (head_of g p) Chosen (opened_run r p names rest) → KidsBy
    by_whole by k hk = own_by g u (head_of g p) (opened_run r p names rest) (kid g p names k) Chosen x.run (kid_there k hk) (λ j s n. by j s)

    -- or all but the root is
    by_others : (q : ℕ) → IsByOther g u (head_of g p) Chosen q (opened_run r p names rest) → KidsBy
    by_others q by k hk =
        own_by g u (head_of g p) (opened_run r p names rest) (kid g p names k) Chosen x.run (kid_there k hk)
        (λ j s n. by.others j s (λ e. root_apart g u (perceived u) r p names rest wf x.run ex k hk (subst (λ z. IsIn z (family (child names k ∷ []) (opened_run r p names rest))) e n)))

    -- each module of the body is that of a child
    body_of_kids : (P : ℕ → Type 0) → ((k : ℕ) → k < length names → P (place_module g p k)) → (m : ℕ) → IsIn m (body_of g p) → P m
    body_of_kids P h m i =
        let a = in_at m (body_of g p) i in
        let b = at_below m a.0 (body_of g p) a.1 in
        let one_each = x.run.1.0.one_each in
        subst P (at_is m a.0 (body_of g p) 0 a.1) (h a.0 (omega arith))

  -- a module is settled that has an expansion by chosen productions
  ends : (fuel m : ℕ) (e : List Event) → length e ≤ fuel → IsExpansion g u m e → IsBy g u m Chosen e → IsSettled g u Chosen m
  ends zero m [] l x by = absurd (x.started refl)
  ends zero m (a ∷ e) l x by = absurd (omega arith)
  ends (suc fuel) m e l x by = go (ends fuel) (expands u m) refl
    where
      go : ((k : ℕ) (f : List Event) → length f ≤ fuel → IsExpansion g u k f → IsBy g u k Chosen f → IsSettled g u Chosen k) → (b : Bool) → expands u m ≡ b → IsSettled g u Chosen m
      go ih false ex = (0, ex)
      go ih true ex =
          when_open g u (λ k f. length f ≤ suc fuel → IsBy g u k Chosen f → IsSettled g u Chosen k)
          (λ r p names rest y ey h c. settled_from g u Chosen (head_of g p) p (c (record { name = r; module_no = head_of g p }) (root_seen g u r p names rest) ey _ (root_told r p names rest)) (y.run.1.0.in_range, refl)
          (body_of_kids r p names rest y ey (IsSettled g u Chosen)
          (λ k hk. ih (place_module g p k) (kid_run names (opened_run r p names rest) k) (let s = kid_shorter g (head_of g p) r p names rest y.run k hk in omega arith) (kid_expansion r p names rest y ey k hk) (by_whole r p names rest y ey c k hk))))
          m e x ex l by

  pub settled_by : (m : ℕ) (e : List Event) → IsExpansion g u m e → IsBy g u m Chosen e → IsSettled g u Chosen m
  settled_by m e x by = ends (length e) m e (omega arith) x by

  -- the body is settled by which the root of such an expansion is expanded
  root_body : (m : ℕ) (e : List Event) → IsExpansion g u m e → expands u m ≡ true → IsBy g u m Chosen e → (x : Expanded) → expanded_by e (root_of e) ≡ Some x → IsSettledBody g u Chosen x.production
  root_body m e x ex =
      when_open g u (λ k f. IsBy g u k Chosen f → (z : Expanded) → expanded_by f (root_of f) ≡ Some z → IsSettledBody g u Chosen z.production)
      (λ r p names rest y ey by z h. subst (IsSettledBody g u Chosen) (same_production r p names rest z h)
      (body_of_kids r p names rest y ey (IsSettled g u Chosen) (λ k hk. settled_by (place_module g p k) (kid_run names (opened_run r p names rest) k) (kid_expansion r p names rest y ey k hk) (by_whole r p names rest y ey by k hk))))
      m e x ex

  -- chosen productions whose bodies are settled
  abbrev Settling : ℕ → ℕ → Type 0
  Settling m p = Chosen m p × IsSettledBody g u Chosen p

  -- an expansion by chosen productions is one by those whose bodies are settled
  by_settling : (m : ℕ) (e : List Event) → IsExpansion g u m e → IsBy g u m Chosen e → IsBy g u m Settling e
  by_settling m e x by j s ex z h =
      let within = (follows g u m e j x.run s).tracks.within j.name (in_family (j.name ∷ []) e j.name (inl refl)) in (
        by j s ex z h,
        root_body j.module_no (sub_run j.name e) (own_expansion g u m e j x s) ex (own_by g u m e j Chosen x.run s (λ k q n. by k q)) z (within ∙ h),
      )

  -- the other production has a settled body where an expansion begins with it
  pub other_body : (m p : ℕ) (e : List Event) → IsExpansion g u m e → expands u m ≡ true → IsByOther g u m Chosen p e → IsSettledBody g u Chosen p
  other_body m p e x ex =
      when_open g u (λ k f. IsByOther g u k Chosen p f → IsSettledBody g u Chosen p)
      (λ r q names rest y ey by. subst (IsSettledBody g u Chosen) (by.root _ (root_told r q names rest))
      (body_of_kids r q names rest y ey (IsSettled g u Chosen) (λ k hk. settled_by (place_module g q k) (kid_run names (opened_run r q names rest) k) (kid_expansion r q names rest y ey k hk) (by_others r q names rest y ey p by k hk))))
      m e x ex

  module _ (d : Assignment) (ind : IsInducedWhereSettled g u Chosen d) where
    by_settled : IsInducedBy g u Settling d
    by_settled = record { shown = ind.shown; induced = λ p hp c seen ex. ind.induced p hp c.0 seen ex c.1 }

    pub chosen_joins : (m : ℕ) → IsSeenModule g u m → (e : List Event) → IsExpansion g u m e → IsBy g u m Chosen e → (i o : ℕ) → i < inputs_of g m → o < outputs_of g m → IsTrue (d m i o) ↔ Joins g u m e i o
    chosen_joins m seen e x by i o hi ho = agrees g u (perceived u) Settling d wf (passes_by g u Settling d by_settled) (length e) m seen e (omega arith) (filled_expansion g u d m e x) (by_settling m e x by) i o hi ho

    kids_join : (r : List ℕ) (p : ℕ) (names : List (List ℕ)) (rest : List Event) (x : IsExpansion g u (head_of g p) (opened_run r p names rest)) (ex : expands u (head_of g p) ≡ true) → IsSeenModule g u (head_of g p) → KidsBy r p names rest x ex → KidsJoin g u (perceived u) d r p names rest wf x.run ex
    kids_join r p names rest x ex seen by k hk =
        let can = x.run.1.0 in
        let one_each = can.one_each in
        chosen_joins (place_module g p k) (in_body p can.in_range seen ex (at_in _ k (body_of g p) (is_at k (body_of g p) 0 (omega arith)))) (kid_run names (opened_run r p names rest) k) (kid_expansion r p names rest x ex k hk) (by k hk)

    pub other_joins : (m p : ℕ) (e : List Event) → IsExpansion g u m e → expands u m ≡ true → IsSeenModule g u m → IsByOther g u m Chosen p e → (i o : ℕ) → BodyJoins g d p i o ↔ Joins g u m e i o
    other_joins m p e x ex =
        when_open g u (λ k f. IsSeenModule g u k → IsByOther g u k Chosen p f → (i o : ℕ) → BodyJoins g d p i o ↔ Joins g u k f i o)
        (λ r q names rest y ey seen by i o.
        subst (λ z. BodyJoins g d z i o ↔ Joins g u (head_of g q) (opened_run r q names rest) i o) (by.root _ (root_told r q names rest))
        (open_joins g u (perceived u) d r q names rest wf y.run ey (kids_join r q names rest y ey seen (by_others r q names rest y ey p by)) i o))
        m e x ex

pub settled_law : SettledLaw
settled_law g u choice wf = record {
  ends = λ m seen e x by. settled_by g u (IsChosen choice) wf m e x by;
  other_ends = λ p seen ex e x by. other_body g u (IsChosen choice) wf (head_of g p) p e x ex by;
  run = λ m seen s. chosen_run g u (IsChosen choice) m s;
  other_run = λ p hp seen ex s. other_run g u (IsChosen choice) p hp s;
  joins = λ d ind m seen e x by. chosen_joins g u (IsChosen choice) wf d ind m seen e x by;
  other_joins = λ d ind p seen ex e x by. other_joins g u (IsChosen choice) wf d ind (head_of g p) p e x ex seen by;
}
