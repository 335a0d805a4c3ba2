-- Given pairs decide nothing of runs and of labels.
use Rattle.std.proofs.Common.{◌≡◌, ℕ, zero, suc, ◌+◌, ◌≤◌, cond, ◌||◌, List, [], ◌∷◌, ◌++◌, map, length, flat_map, zip, Option, Some, None, is_some, refl, sym, ap, ◌∙◌, subst}
use Rattle.std.specs.Prelude.{◌==◌, not, nat_le, nat_lt}
use Rattle.std.specs.List.{find, list_all}
use Rattle.wf_model.specs.Lists.{IsIn, some, numbers_from}
use Rattle.wf_model.specs.Grammar.{Grammar, Given, production_at, alternative_of, head_of, body_of}
use Rattle.wf_model.specs.declared.event.Event.{Event}
use Rattle.wf_model.specs.declared.event.Event.TheVariants.{Start, Expand}
use Rattle.wf_model.specs.declared.event.RunFault.TheVariants.{NotStarted, UnknownInstance, UnknownProduction, WrongHead, AlreadyExpanded, PositionsWrong, NameBad, NameTwice, TooManyInstances}
use Rattle.wf_model.specs.Run.{made, made_by, names_of, expanded_by, Extends, AllExtend, IsAccepted}
use Rattle.wf_model.specs.Reach.{Step, target_of}
use Rattle.wf_model.specs.Items.{items_by}
use Rattle.wf_model.specs.Faults.{is_short_name, is_nil, module_in, is_one_of, some_twice, first_of, fault_of}
use Rattle.label_model.specs.Continuing.{makes, derives_within, derives, steps_of, continuing, is_step}
use Rattle.label_model.specs.Labels.{OfEdge}
use Rattle.label_model.specs.Places.{chain_by, count_after, told, steps_from, chain_from}
use Rattle.label_model.specs.RunLabels.{address_in, labels_by, labelled}
use Rattle.label_model.specs.Files.{entry_bytes, entry_of, head_bytes}
use Rattle.report_model.specs.Reports.{Report}
use Rattle.report_model.specs.Intake.{Intake, nothing_taken, Taking, and_then, without_first, is_ready, ready_in, hold, apply_unless, apply_one, apply_ready, take_report, take_reports, end_with, intake}
use Rattle.version_model.specs.Versions.{AreBuiltAlike}
use Rattle.version_model.specs.Laws.{GivenPairsLaw}

-- a grammar with other given pairs
module _ (g : Grammar) (given : List Given) where
  abbrev pub other : Grammar
  other = record { start = g.start; modules = g.modules; productions = g.productions; given = given }

  -- the same instances are made
  made_by_same : (k : ℕ) (e : Event) → made_by g k e ≡ made_by other k e
  made_by_same k (Start r) = refl
  made_by_same k (Expand i p names) = refl

  made_same : (k : ℕ) (es : List Event) → made g k es ≡ made other k es
  made_same k es = λ t. flat_map (λ e. made_by_same k e t) es

  -- the same events extend a run
  extends_same : (k : ℕ) (before : List Event) (e : Event) → Extends g k before e → Extends other k before e
  extends_same k before (Start r) x = x
  extends_same k before (Expand i p names) x = record {
    in_range = x.in_range;
    stands = subst (IsIn (record { name = i; module_no = head_of g p })) (made_same k before) x.stands;
    open_end = x.open_end;
    one_each = x.one_each;
    good = x.good;
    differ = x.differ;
    new = λ n h j. x.new n h (subst (λ is. IsIn n (names_of is)) (sym (made_same k before)) j);
  }

  all_same : (k : ℕ) (before es : List Event) → AllExtend g k before es → AllExtend other k before es
  all_same k before [] x = tt
  all_same k before (e ∷ es) x = (extends_same k before e x.0, all_same k (before ++ e ∷ []) es x.1)

  pub accepted_same : (limit : ℕ) (es : List Event) → IsAccepted g limit es → IsAccepted other limit es
  accepted_same limit es x = (
    all_same g.start [] es x.0,
    subst (λ is. length is ≤ limit) (made_same g.start es) x.1,
    λ n h. x.2 n (subst (λ is. IsIn n (names_of is)) (sym (made_same g.start es)) h),
  )

  -- an event has the same fault, and is ready alike
  fault_same : (most : ℕ) (before : List Event) (e : Event) → fault_of g most before e ≡ fault_of other most before e
  fault_same most before (Start r) = refl
  fault_same most before (Expand i p names) = ap
      (λ is. first_of
      ((is_nil before, NotStarted) ∷
      (not (is_one_of (names_of is) i), UnknownInstance) ∷
      (nat_le (length g.productions) p, UnknownProduction) ∷
      (not (module_in is i == head_of g p), WrongHead) ∷
      (is_some (expanded_by before i), AlreadyExpanded) ∷
      (not (length names == length (body_of g p)), PositionsWrong) ∷
      (not (list_all is_short_name names), NameBad) ∷
      (some_twice (names_of is) names, NameTwice) ∷
      (nat_lt most (length is + length names), TooManyInstances) ∷ []))
      (made_same g.start before)

  is_ready_same : (run : List Event) (e : Event) → is_ready g run e ≡ is_ready other run e
  is_ready_same run (Start r) = refl
  is_ready_same run (Expand i p names) = ap (λ is. is_one_of (names_of is) i) (made_same g.start run)

  ready_same : (run : List Event) → ready_in g run ≡ ready_in other run
  ready_same run = λ t r. is_ready_same run r.event t

  -- so reports are taken alike
  one_same : (most : ℕ) (next later : Intake → Taking) → ((s : Intake) → next s ≡ later s) → (s : Intake) (o : Option Report) → apply_one g most next s o ≡ apply_one other most later s o
  one_same most next later same s None = refl
  one_same most next later same s (Some r) = λ t. apply_unless (λ z. same z t) (record { run = s.run; held = without_first (ready_same s.run t) s.held; known = s.known }) r (fault_same most s.run r.event t)

  rounds_same : (most n : ℕ) (s : Intake) → apply_ready g most n s ≡ apply_ready other most n s
  rounds_same most zero s = refl
  rounds_same most (suc n) s =
      one_same most (apply_ready g most n) (apply_ready other most n) (rounds_same most n) s (find (ready_in g s.run) s.held) ∙
      ap (λ test. apply_one other most (apply_ready other most n) s (find test s.held)) (ready_same s.run)

  report_same : (most : ℕ) (s : Intake) (r : Report) → take_report g most s r ≡ take_report other most s r
  report_same most s r = λ t. and_then (hold s r) (λ z. rounds_same most (length z.held) z t)

  reports_taken_same : (most : ℕ) (s : Intake) (reports : List Report) → take_reports g most s reports ≡ take_reports other most s reports
  reports_taken_same most s [] = refl
  reports_taken_same most s (r ∷ reports) = λ t. and_then (report_same most s r t) (λ z. reports_taken_same most z reports t)

  pub reports_same : (most : ℕ) (reports : List Report) → intake g most reports ≡ intake other most reports
  reports_same most reports = ap (λ h. and_then h (λ s. end_with s s.held)) (reports_taken_same most nothing_taken reports)

  -- the same modules are derived, and the same step goes on
  within_same : (n a b : ℕ) → derives_within g n a b ≡ derives_within other n a b
  unfolding derives_within
  within_same zero a b = refl
  within_same (suc n) a b = λ t. (a == b) || some (λ k. within_same n k b t) (makes g a)

  derives_same : (a b : ℕ) → derives g a b ≡ derives other a b
  unfolding derives
  derives_same a b = within_same (length g.modules) a b

  continuing_same : (m : ℕ) → continuing g m ≡ continuing other m
  unfolding continuing
  continuing_same m = λ t. find (λ s. derives_same (target_of g s) m t) (steps_of g m)

  -- so the places of addresses are the same
  told_same : (m c : ℕ) (s : Step) → told g m c s ≡ told other m c s
  told_same m c s = ap (λ o. cond (is_step o s) [] (record { chain = chain_by o c; alternative = alternative_of g s.production; position = s.position } ∷ [])) (continuing_same m)

  count_same : (m c : ℕ) (s : Step) → count_after g m c s ≡ count_after other m c s
  count_same m c s = ap (λ o. cond (is_step o s) (c + 1) 0) (continuing_same m)

  steps_same : (m c : ℕ) (a : List Step) → steps_from g m c a ≡ steps_from other m c a
  steps_same m c [] = refl
  steps_same m c (s ∷ a) =
      ap (λ l. l ++ steps_from g (target_of g s) (count_after g m c s) a) (told_same m c s) ∙
      ap (λ l. told other m c s ++ l) (ap (λ k. steps_from g (target_of g s) k a) (count_same m c s) ∙ steps_same (target_of g s) (count_after other m c s) a)

  chain_same : (m c : ℕ) (a : List Step) → chain_from g m c a ≡ chain_from other m c a
  chain_same m c [] = ap (λ o. chain_by o c) (continuing_same m)
  chain_same m c (s ∷ a) = ap (λ k. chain_from g (target_of g s) k a) (count_same m c s) ∙ chain_same (target_of g s) (count_after other m c s) a

  -- and so are the labels of items
  labels_same : (events : List Event) (e : Event) → labels_by g events e ≡ labels_by other events e
  labels_same events (Start r) = refl
  labels_same events (Expand i p names) = λ t. map
      (λ e. OfEdge (record { steps = steps_same g.start 0 (address_in events i) t; chain = chain_same g.start 0 (address_in events i) t; alternative = alternative_of g p; edge = e }))
      (numbers_from 0 (length (production_at g p).edges))

  items_same : (k : ℕ) (e : Event) → items_by g k e ≡ items_by other k e
  items_same k (Start r) = refl
  items_same k (Expand i p names) = refl

  pub labelled_same : (events : List Event) → labelled g events ≡ labelled other events
  labelled_same events = λ t. flat_map (λ e. zip (items_same g.start e t) (labels_same events e t)) events

-- a grammar that is built as another is that one with other pairs
pub built_alike : (g h : Grammar) → AreBuiltAlike g h → other g h.given ≡ h
built_alike g h is = λ t. record { start = sym is.start t; modules = sym is.modules t; productions = sym is.productions t; given = h.given }

-- and the other is built as it
pub built_back : (g h : Grammar) → AreBuiltAlike g h → AreBuiltAlike h g
built_back g h is = record { start = sym is.start; modules = sym is.modules; productions = sym is.productions }

pub given_pairs_law : GivenPairsLaw
given_pairs_law g h is =
    let same = built_alike g h is in
    let labels : (events : List Event) → labelled g events ≡ labelled h events = λ events. labelled_same g h.given events ∙ ap (λ k. labelled k events) same in
    record {
      accepted = λ limit events x. subst (λ k. IsAccepted k limit events) same (accepted_same g h.given limit events x);
      reports = λ most reports. reports_same g h.given most reports ∙ ap (λ k. intake k most reports) same;
      entries = λ events. ap (map entry_of) (labels events);
      file = λ digest events. ap (λ l. head_bytes digest ++ flat_map entry_bytes (map entry_of l)) (labels events);
    }
