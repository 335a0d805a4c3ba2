-- The lines of the events of a generator, made due one by one.
use Rattle.std.proofs.Common.{◌≡◌, ◌<◌, ℕ, Bool, true, false, List, [], ◌∷◌, ◌++◌, length, Option, refl, sym, ap, ◌∙◌, subst, append_assoc, append-nil}
use Rattle.std.proofs.lemmas.Grind.{flat_map-append}
use Rattle.wf_model.specs.declared.event.Event.{Event}
use Rattle.wf_gen.specs.Coming.{Coming, IsNextLine}
use Rattle.wf_gen.specs.Lines.{event_line}
use Rattle.wf_lines.specs.Taking.{IsDue}
use Rattle.wf_lines.proofs.Dues.{due_still}
use Rattle.wf_message.specs.Endings.{End, Done, NoMemory}
use Rattle.cmd_make.specs.EventLines.{event_lines}
use Rattle.cmd_make.specs.Putting.{MakesDue}
use Rattle.cmd_make.proofs.MakingDue.{makes_wanting, makes_text, due_piece, piece_ends, made_due}

-- the line that a generator appended is that of the first of the events to come
pub line_given : (old new : Coming) (given : Bool) (a b : List ℕ) → given ≡ true → IsNextLine old given new a b → (e : Event) × (old.events ≡ e ∷ new.events) × (b ≡ a ++ event_line e)
line_given old new given a b is next = let first = subst (λ t. IsNextLine old t new a b) is next in (first.0, first.1.events, first.2)

-- or there is none
pub no_line : (old new : Coming) (given : Bool) (a b : List ℕ) → given ≡ false → IsNextLine old given new a b → (old.events ≡ []) × (b ≡ a)
no_line old new given a b is next = let end = subst (λ t. IsNextLine old t new a b) is next in (end.0.none, end.1)

-- of these events the first were given, the others are to come, and the lines of those that were given are due behind what was, which stays short
pub record AreDue {T : Type 0} (bytes : T → Option (List ℕ)) (faults : T → ℕ) (all : List Event) (due : List ℕ) (coming : List Event) (due' : List ℕ) (old new : T) : Type 0 where
  pub given : List Event
  pub split : all ≡ given ++ coming
  pub due_so_far : IsDue (due ++ event_lines given) due' (bytes old) (bytes new)
  pub count : faults new ≡ faults old
  pub short : length due < 65536 → length due' < 65536

module _ {T : Type 0} {bytes : T → Option (List ℕ)} {faults : T → ℕ} where
  -- none was given yet
  pub none_given : (all : List Event) (due : List ℕ) (o : T) → AreDue bytes faults all due all due o o
  none_given all due o = record { given = []; split = refl; due_so_far = due_still (due ++ []) due (bytes o) (bytes o) refl (sym (append-nil due)); count = refl; short = λ was. was }

  module _ {last : T → Bool} (all : List Event) (due : List ℕ) (e : Event) (coming coming' : List Event) (a b : List ℕ) (o p q : T) where
    -- the line of one event more is due
    pub one_given : AreDue bytes faults all due coming a o p → coming ≡ e ∷ coming' → MakesDue bytes faults last a (event_line e) b p q Done → AreDue bytes faults all due coming' b o q
    one_given so_far next m =
        let now = made_due a (event_line e) b p q m in
        record {
          given = so_far.given ++ e ∷ [];
          split = so_far.split ∙ (ap (λ c. so_far.given ++ c) next ∙ sym (append_assoc so_far.given (e ∷ []) coming'));
          due_so_far = subst (λ t. IsDue (due ++ t) b (bytes o) (bytes q))
              (ap (λ l. event_lines so_far.given ++ l) (sym (append-nil (event_line e))) ∙ sym (flat_map-append event_line so_far.given (e ∷ [])))
              (due_piece due (event_lines so_far.given) (event_line e) a b (bytes o) (bytes p) (bytes q) so_far.due_so_far now.0);
          count = now.1 ∙ so_far.count;
          short = λ was. now.2 (so_far.short was);
        }

    -- the making of the next line ended the program
    pub event_ends : (d : End) → AreDue bytes faults all due coming a o p → coming ≡ e ∷ coming' → (d ≡ Done → ⊥) → MakesDue bytes faults last a (event_line e) b p q d → MakesDue bytes faults last due (event_lines all) b o q d
    event_ends d so_far next stopped m =
        subst (λ t. MakesDue bytes faults last due t b o q d)
        (sym (flat_map-append event_line so_far.given (e ∷ coming')) ∙ ap event_lines (sym (so_far.split ∙ ap (λ c. so_far.given ++ c) next)))
        (piece_ends due (event_lines so_far.given) (event_line e) (event_lines coming') a b o p q d so_far.due_so_far so_far.count stopped m)

  module _ {last : T → Bool} (all : List Event) (due : List ℕ) (coming : List Event) (a : List ℕ) (o p : T) (so_far : AreDue bytes faults all due coming a o p) where
    -- memory was wanting for the next event
    pub next_wanting : (b : List ℕ) → MakesDue bytes faults last due (event_lines all) b o p NoMemory
    next_wanting b =
        subst (λ t. MakesDue bytes faults last due t b o p NoMemory)
        (sym (flat_map-append event_line so_far.given coming) ∙ ap event_lines (sym so_far.split))
        (piece_ends due (event_lines so_far.given) [] (event_lines coming) a b o p p NoMemory so_far.due_so_far so_far.count (λ e. absurd (cc)) (makes_wanting a [] b p))

    -- no event is to come
    pub all_given : (b : List ℕ) → (coming ≡ []) × (b ≡ a) → MakesDue bytes faults last due (event_lines all) b o p Done
    all_given b none =
        let is = so_far.split ∙ (ap (λ c. so_far.given ++ c) none.0 ∙ append-nil so_far.given) in
        makes_text due (event_lines all) b o p
        (subst (λ es. IsDue (due ++ event_lines es) b (bytes o) (bytes p)) (sym is) (subst (λ t. IsDue (due ++ event_lines so_far.given) t (bytes o) (bytes p)) (sym none.1) so_far.due_so_far)) so_far.count
        (λ was. subst (λ t. length t < 65536) (sym none.1) (so_far.short was))
