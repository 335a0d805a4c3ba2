-- The rounds of the intake, and how they follow one another.
use Rattle.std.proofs.Common.{◌≡◌, ℕ, List, [], ◌++◌, Option, Some, sym, ap, ◌∙◌, subst, arith, append_assoc, append-nil, refl}
use Rattle.std.specs.Prelude.{◌+◌, MatchOption}
use Rattle.wf_model.specs.declared.event.RunFault.{RunFault}
use Rattle.std.specs.List.{find, slice_set}
use Rattle.wf_model.specs.Grammar.{Grammar}
use Rattle.wf_model.specs.declared.event.Event.{Event}
use Rattle.report_model.specs.Reports.{Report}
use Rattle.report_model.specs.Intake.{Intake, ReportFault, Refused, GoesOn, Stops, ready_in, without_ready, apply_all}
use Rattle.report_model.specs.Kept.{Kept, kept_at, let_go, IsFirstReady}
use Rattle.report_model.proofs.Rounds.{all_done}
use Rattle.wf_inbox.specs.declared.inbox.Held.{Held}
use Rattle.wf_inbox.specs.Inboxes.{IsNext, IsFirstHeld, IsFirstLetGo, NoneReady}
use Rattle.wf_intake.specs.declared.fault.IntakeFault.{IntakeFault}
use Rattle.wf_intake.specs.Reported.{ReportedSeen, noted}
use Rattle.wf_intake.specs.Applied.{number_of}
use Rattle.wf_intake.specs.Intakes.{IsKeptAs, IsWrittenOn, forgetting, fault_told}
use Rattle.wf_intake.specs.Rounds.{names_given, all_marked, held_count, IsApplied, IsNotApplied, ComesTo, StopsWith, IsForgotten, Round, Stop}
use Rattle.wf_intake.proofs.Places.{one_less, count_marked}
use Rattle.wf_intake.proofs.KnownOn.{none_found}
use Rattle.wf_intake.proofs.OnTheWay.{way_on}
use Rattle.wf_intake.proofs.Parts.{next_refused, next_applied, next_way, next_parts, refused_parts}

-- the first report that is ready is let go
pub next_held : (was left : List Kept) (o : Option Held) (h : Held) → o ≡ Some h → MatchOption o (NoneReady was) (IsFirstHeld was) → IsFirstLetGo was left → IsNext was left (record { line = h.line; event = h.event })
next_held was left o h e first gone = let f = subst (λ z. MatchOption z (NoneReady was) (IsFirstHeld was)) e first in (f.0, f.1, f.2, gone f.0 f.1)

-- nothing more is written
pub written_same : (written : List Event → List ℕ) (run : List Event) (old new : List ℕ) → new ≡ old → IsWrittenOn written run run old new
written_same written run old new e = ([], e ∙ sym (append-nil old), sym (append-nil (written run)))

-- one text behind another
pub written_on : (written : List Event → List ℕ) (a b c : List Event) (x y z : List ℕ) → IsWrittenOn written a b x y → IsWrittenOn written b c y z → IsWrittenOn written a c x z
written_on written a b c x y z p q = (
  p.0 ++ q.0,
  q.1 ∙ (ap (λ l. l ++ q.0) p.1 ∙ append_assoc x p.0 q.0),
  q.2 ∙ (ap (λ l. l ++ q.0) p.2 ∙ append_assoc (written a) p.0 q.0),
)

module _ (g : Grammar) (most : ℕ) (written : List Event → List ℕ) (was : List Kept) (told : ReportedSeen) (WasRun IsRun : List Event → Type 0) (old new : List ℕ) (s : Intake) (here : IsKeptAs g was told WasRun s) (k : ℕ) (first : IsFirstReady was k) where
  abbrev event : Event
  event = (kept_at was k).report.event

  abbrev left : List Kept
  left = slice_set was k (let_go (kept_at was k))

  applied : (number : Option ℕ) → number ≡ number_of g s.run event → IsApplied g most written s.run event IsRun old new →
      ComesTo g most written (all_marked (names_given event) left) (noted told number (kept_at was k).report.line event) IsRun old new s
  applied number numbered a = record {
    later = _;
    same = next_applied g most was told WasRun s here k first a.extends;
    on_the_way = next_way g most was told WasRun s here k first a.extends;
    here = next_parts g most was told WasRun s here k first a.extends number numbered IsRun a.run;
    text = a.text;
  }

  refused : (r : ReportFault) → IsNotApplied g most s.run event (kept_at was k).report.line r IsRun old new → StopsWith written IsRun old new s (apply_all g most s) r
  refused r a = record {
    left = _;
    stops = next_refused g most was told WasRun s here k first a.fault a.of_run ∙ ap (Stops (without_ready g s)) (sym a.told);
    run = a.untouched.run;
    text = written_same written s.run old new a.untouched.text;
  }

module _ (g : Grammar) (most : ℕ) (written : Grammar → List Event → List ℕ) (was left : List Kept) (told : ReportedSeen) (WasRun : List Event → Type 0) (line : ℕ) (e : Event) (next : IsNext was left (record { line = line; event = e })) (old new : List ℕ) where
  -- the event of the first report that is ready is applied
  pub round_applied : (kept : List Kept) (seen : ReportedSeen) (number : Option ℕ) (IsRun : List Event → Type 0) → kept ≡ all_marked (names_given e) left → seen ≡ noted told number line e →
      ((events : List Event) → WasRun events → number ≡ number_of g events e) →
      ((events : List Event) → WasRun events → IsApplied g most (written g) events e IsRun old new) → Round g most written was told WasRun old kept seen IsRun new
  round_applied kept seen number IsRun marks notes numbered a s here =
      let is : (kept_at was next.0).report ≡ record { line = line; event = e } = next.2 in
      let goes = applied g most (written g) was told WasRun IsRun old new s here next.0 next.1 number (subst (λ (z : Report). number ≡ number_of g s.run z.event) (sym is) (numbered s.run here.run))
      (subst (λ (z : Report). IsApplied g most (written g) s.run z.event IsRun old new) (sym is) (a s.run here.run)) in
      let named = subst (λ (z : Report). ComesTo g most (written g) (all_marked (names_given z.event) (slice_set was next.0 (let_go (kept_at was next.0)))) (noted told number z.line z.event) IsRun old new s) is goes in
      subst (λ z. ComesTo g most (written g) kept z IsRun old new s) (sym notes) (subst (λ z. ComesTo g most (written g) z (noted told number line e) IsRun old new s) (sym (marks ∙ ap (all_marked (names_given e)) next.3)) named)

  -- and one less is held
  pub round_one : (kept : List Kept) → kept ≡ all_marked (names_given e) left → held_count was ≡ held_count kept + 1
  round_one kept marks =
      let a = one_less was next.0 next.1.held in
      let b : held_count kept ≡ held_count (slice_set was next.0 (let_go (kept_at was next.0))) = ap held_count marks ∙ (count_marked (names_given e) left ∙ ap held_count next.3) in
      omega (arith, a, b)

  -- where it is refused it is let go, and the parts are those without it
  pub round_left : (seen : ReportedSeen) (IsRun : List Event → Type 0) (r : ReportFault) → seen ≡ told → ((events : List Event) → WasRun events → IsRun events) → (fault : RunFault) × (r ≡ Refused line fault) → IsForgotten g was told WasRun left seen IsRun r
  round_left seen IsRun r same still is = record {
    next = record { line = line; event = e };
    fault = is.0;
    is = is.1;
    let_go = next;
    lines = same;
    parts = λ s here.
        let l : (kept_at was next.0).report ≡ record { line = line; event = e } = next.2 in
        subst (λ z. IsKeptAs g left z IsRun (forgetting g s e)) (sym same)
        (subst (λ z. IsKeptAs g z told IsRun (forgetting g s e)) (sym next.3)
        (subst (λ (z : Report). IsKeptAs g (slice_set was next.0 (let_go (kept_at was next.0))) told IsRun (forgetting g s z.event)) l
        (refused_parts g most was told WasRun s here next.0 next.1 IsRun (still s.run here.run))));
  }

  module _ (IsRun : List Event → Type 0) (f : IntakeFault) where
    -- or it is refused
    pub round_refused : ((r : ReportFault) → fault_told f ≡ Some r → (events : List Event) → WasRun events → IsNotApplied g most events e line r IsRun old new) → Stop g most written was told WasRun old IsRun new f
    round_refused a r t s here =
        let l : (kept_at was next.0).report ≡ record { line = line; event = e } = next.2 in
        refused g most (written g) was told WasRun IsRun old new s here next.0 next.1 r (subst (λ (z : Report). IsNotApplied g most s.run z.event z.line r IsRun old new) (sym l) (a r t s.run here.run))

-- where none is ready, all is done
pub all_done_there : (g : Grammar) (most : ℕ) (kept : List Kept) (seen : ReportedSeen) (IsRun : List Event → Type 0) → NoneReady kept → (s : Intake) → IsKeptAs g kept seen IsRun s → apply_all g most s ≡ GoesOn s
all_done_there g most kept seen IsRun none s here = all_done g most s (ap (find (ready_in g s.run)) here.held ∙ none_found g s.run kept here.marks none)

-- what is written behind no text is written behind each text
pub written_behind : (written : List Event → List ℕ) (b c : List Event) (before y z : List ℕ) → before ≡ [] → IsWrittenOn written b c before z → IsWrittenOn written b c y (y ++ z)
written_behind written b c before y z none h = (h.0, ap (λ l. y ++ l) (h.1 ∙ ap (λ l. l ++ h.0) none), h.2)

-- A state comes to a later one, and its text is cleared between; what comes of the later one comes of the first, with the text behind that which was cleared
module _ (g : Grammar) (most : ℕ) (written : List Event → List ℕ) (kept : List Kept) (seen : ReportedSeen) (IsRun : List Event → Type 0) (x y : List ℕ) (s : Intake) (a : ComesTo g most written kept seen IsRun x y s) (before : List ℕ) (none : before ≡ []) where
  then_written : (run : List Event) (z : List ℕ) → IsWrittenOn written a.later.run run before z → IsWrittenOn written s.run run x (y ++ z)
  then_written run z w = written_on written s.run a.later.run run x y (y ++ z) a.text (written_behind written a.later.run run before y z none w)

  -- a refusal
  pub stops_on : (LastRun : List Event → Type 0) (z : List ℕ) (r : ReportFault) → StopsWith written LastRun before z a.later (apply_all g most a.later) r → StopsWith written LastRun x (y ++ z) s (apply_all g most s) r
  stops_on LastRun z r b = record { left = b.left; stops = a.same ∙ b.stops; run = b.run; text = then_written b.left.run z b.text }

  -- a state later than it
  pub comes_on : (more : List Kept) (lines : ReportedSeen) (MoreRun : List Event → Type 0) (z : List ℕ) → ComesTo g most written more lines MoreRun before z a.later → ComesTo g most written more lines MoreRun x (y ++ z) s
  comes_on more lines MoreRun z b = record {
    later = b.later;
    same = a.same ∙ b.same;
    on_the_way = way_on g most s a.later b.later a.on_the_way b.on_the_way;
    here = b.here;
    text = then_written b.later.run z b.text;
  }
