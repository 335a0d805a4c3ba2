-- Texts that are added to what is due, one after the other.
use Rattle.std.proofs.Common.{◌≡◌, ℕ, ◌+◌, ◌<◌, ◌≤◌, Bool, List, [], ◌∷◌, ◌++◌, take, drop, get_or, length, Option, refl, sym, ap, ◌∙◌, subst, arith, length-append, append-nil, append_assoc}
use Rattle.std.specs.Prelude.{flat_map, Result, Ok, Err}
use Rattle.std.proofs.lemmas.List.{take_more, take-append-drop, take_all}
use Rattle.std.proofs.lemmas.Grind.{flat_map-append}
use Rattle.wf_io.specs.Told.{Appended}
use Rattle.wf_io.proofs.Appending.{begun_longer, begun_none}
use Rattle.wf_lines.specs.Taking.{IsDue, IsBegun}
use Rattle.wf_lines.proofs.Dues.{due_still, due_later, due_more, due_begun, due_put, due_some}
use Rattle.wf_export.specs.declared.fault.ExportFault.{ExportFault}
use Rattle.wf_export.specs.declared.fault.ExportFault.TheVariants.{WriteFault, NoMemory}
use Rattle.wf_export.specs.Adds.{IsCauseOf, IsStopped, StaysShort, Adds, Writes}

-- a text is due behind what was due, and no fault came
abbrev pub AddsWhole : {S : Type 0} → (S → Option (List ℕ)) → (S → ℕ) → List ℕ → List ℕ → List ℕ → S → S → Type 0
AddsWhole bytes faults text due new_due old new = IsDue (due ++ text) new_due (bytes old) (bytes new) × (faults new ≡ faults old) × StaysShort due new_due

-- where memory is wanting, nothing was put
pub wanting : (text due : List ℕ) (old : Option (List ℕ)) (count : ℕ) (at_last : Bool) → IsStopped (due ++ text) old old count count at_last NoMemory
wanting text due old count at_last = record { begun = begun_none (due ++ text) old old refl; later = omega arith; cause = refl; some = λ e. absurd (cc) }

module _ {S : Type 0} (bytes : S → Option (List ℕ)) (faults : S → ℕ) (last : S → Bool) where
  -- no text
  pub adds_none : (due : List ℕ) (old : S) → AddsWhole bytes faults [] due due old old
  adds_none due old = (due_still (due ++ []) due (bytes old) (bytes old) refl (sym (append-nil due)), refl, λ short. short)

  -- one text and another
  pub adds_both : (a b due mid_due new_due : List ℕ) (old mid new : S) → AddsWhole bytes faults a due mid_due old mid → AddsWhole bytes faults b mid_due new_due mid new → AddsWhole bytes faults (a ++ b) due new_due old new
  adds_both a b due mid_due new_due old mid new x y = (
    subst (λ t. IsDue t new_due (bytes old) (bytes new)) (append_assoc due a b)
        (due_later ((due ++ a) ++ b) (mid_due ++ b) new_due (bytes old) (bytes mid) (bytes new) (due_more (due ++ a) mid_due b (bytes old) (bytes mid) x.0) y.0),
    y.1 ∙ x.1,
    λ short. y.2 (x.2 short),
  )

  -- a cause counts from where no fault had come
  cause_from : (before mid after : ℕ) (at_last : Bool) (f : ExportFault) → mid ≡ before → IsCauseOf mid after at_last f → IsCauseOf before after at_last f
  cause_from before mid after at_last f e c = subst (λ n. IsCauseOf n after at_last f) e c

  -- a text and a beginning of another
  pub stopped_after : (a b due mid_due : List ℕ) (old mid new : S) (f : ExportFault) → AddsWhole bytes faults a due mid_due old mid → IsStopped (mid_due ++ b) (bytes mid) (bytes new) (faults mid) (faults new) (last new) f →
      IsStopped (due ++ (a ++ b)) (bytes old) (bytes new) (faults old) (faults new) (last new) f
  stopped_after a b due mid_due old mid new f x s = record {
    begun = subst (λ t. IsBegun t (bytes old) (bytes new)) (append_assoc due a b)
        (due_begun ((due ++ a) ++ b) (mid_due ++ b) (bytes old) (bytes mid) (bytes new) (due_more (due ++ a) mid_due b (bytes old) (bytes mid) x.0) s.begun);
    later = subst (λ n. n ≤ faults new) x.1 s.later;
    cause = cause_from (faults old) (faults mid) (faults new) (last new) f x.1 s.cause;
    some = λ w. subst (λ t. 0 < length t) (append_assoc due a b) (due_some ((due ++ a) ++ b) (mid_due ++ b) (bytes old) (bytes mid) (due_more (due ++ a) mid_due b (bytes old) (bytes mid) x.0) (s.some w));
  }

  -- a beginning of a text is one of a longer text
  pub stopped_longer : (a b due : List ℕ) (old new : S) (f : ExportFault) → IsStopped (due ++ a) (bytes old) (bytes new) (faults old) (faults new) (last new) f → IsStopped (due ++ (a ++ b)) (bytes old) (bytes new) (faults old) (faults new) (last new) f
  stopped_longer a b due old new f s = record {
    begun = subst (λ t. IsBegun t (bytes old) (bytes new)) (append_assoc due a b) (begun_longer s.begun.0 (due ++ a) b (bytes old) (bytes new) s.begun.1);
    later = s.later;
    cause = s.cause;
    some = λ w. let e = length-append (due ++ a) b in let more = s.some w in subst (λ t. 0 < length t) (append_assoc due a b) (omega (arith, e, more));
  }

  -- a fault that is passed on
  pub passed : {T : Type 0} (text due new_due : List ℕ) (old new : S) (r : Result T ExportFault) (f : ExportFault) → (y : ExportFault) × (r ≡ Err y) × (y ≡ f) → IsStopped (due ++ text) (bytes old) (bytes new) (faults old) (faults new) (last new) f → Adds bytes faults last text due new_due old new r
  passed text due new_due old new r f e s = subst (Adds bytes faults last text due new_due old new) (sym (e.1 ∙ ap Err e.2)) s

  -- a text, and another as a result says
  pub adds_after : {T : Type 0} (a b due mid_due new_due : List ℕ) (old mid new : S) (r : Result T ExportFault) → AddsWhole bytes faults a due mid_due old mid → Adds bytes faults last b mid_due new_due mid new r → Adds bytes faults last (a ++ b) due new_due old new r
  adds_after a b due mid_due new_due old mid new (Ok x) whole more = adds_both a b due mid_due new_due old mid new whole more
  adds_after a b due mid_due new_due old mid new (Err f) whole s = stopped_after a b due mid_due old mid new f whole s

  -- a text was added to none, and what of it is due is put as a result says
  pub written_after : {T : Type 0} (text due : List ℕ) (old mid new : S) (r : Result T ExportFault) → AddsWhole bytes faults text [] due old mid → Writes bytes faults last due mid new r → Writes bytes faults last text old new r
  written_after text due old mid new (Ok x) added put = (due_put text due (bytes old) (bytes mid) (bytes new) added.0 put.0, put.1 ∙ added.1)
  written_after text due old mid new (Err f) added s = record {
    begun = due_begun text due (bytes old) (bytes mid) (bytes new) added.0 s.begun;
    later = subst (λ n. n ≤ faults new) added.1 s.later;
    cause = cause_from (faults old) (faults mid) (faults new) (last new) f added.1 s.cause;
    some = λ w. due_some text due (bytes old) (bytes mid) added.0 (s.some w);
  }

  -- whatever the result is, a beginning was put
  pub written_begun : {T : Type 0} (text : List ℕ) (old new : S) (r : Result T ExportFault) → Writes bytes faults last text old new r → IsBegun text (bytes old) (bytes new)
  written_begun text old new (Ok x) w = (length text, subst (λ t. Appended t (bytes old) (bytes new)) (sym (take_all (length text) text (omega arith))) w.0)
  written_begun text old new (Err f) s = s.begun

  module _ {A : Type 0} (f : A → List ℕ) (xs : List A) where
    -- the texts of the first k
    abbrev pub AddsFirst : ℕ → List ℕ → List ℕ → S → S → Type 0
    AddsFirst k due new_due old new = AddsWhole bytes faults (flat_map f (take k xs)) due new_due old new

    more_text : (k : ℕ) (d : A) → k < length xs → flat_map f (take (k + 1) xs) ≡ flat_map f (take k xs) ++ f (get_or xs k d)
    more_text k d h = ap (flat_map f) (take_more xs k d h) ∙ (flat_map-append f (take k xs) (get_or xs k d ∷ []) ∙ ap (λ t. flat_map f (take k xs) ++ t) (append-nil (f (get_or xs k d))))

    all_text : (k : ℕ) → flat_map f xs ≡ flat_map f (take k xs) ++ flat_map f (drop k xs)
    all_text k = ap (flat_map f) (sym (take-append-drop k xs)) ∙ flat_map-append f (take k xs) (drop k xs)

    -- and that of one more
    pub first_more : (k : ℕ) (d : A) (piece : List ℕ) → k < length xs → piece ≡ f (get_or xs k d) → (due mid_due new_due : List ℕ) (old mid new : S) → AddsFirst k due mid_due old mid → AddsWhole bytes faults piece mid_due new_due mid new → AddsFirst (k + 1) due new_due old new
    first_more k d piece h e due mid_due new_due old mid new x y =
        subst (λ t. AddsWhole bytes faults t due new_due old new) (ap (λ t. flat_map f (take k xs) ++ t) e ∙ sym (more_text k d h)) (adds_both (flat_map f (take k xs)) piece due mid_due new_due old mid new x y)

    -- or a beginning of it
    first_stopped : (k : ℕ) (d : A) (piece : List ℕ) → k < length xs → piece ≡ f (get_or xs k d) → (due mid_due : List ℕ) (old mid new : S) (y : ExportFault) → AddsFirst k due mid_due old mid → IsStopped (mid_due ++ piece) (bytes mid) (bytes new) (faults mid) (faults new) (last new) y →
        IsStopped (due ++ flat_map f xs) (bytes old) (bytes new) (faults old) (faults new) (last new) y
    first_stopped k d piece h e due mid_due old mid new y x s =
        subst (λ t. IsStopped (due ++ t) (bytes old) (bytes new) (faults old) (faults new) (last new) y) (sym (all_text (k + 1)))
        (stopped_longer (flat_map f (take (k + 1) xs)) (flat_map f (drop (k + 1) xs)) due old new y
        (subst (λ t. IsStopped (due ++ t) (bytes old) (bytes new) (faults old) (faults new) (last new) y) (ap (λ t. flat_map f (take k xs) ++ t) e ∙ sym (more_text k d h)) (stopped_after (flat_map f (take k xs)) piece due mid_due old mid new y x s)))

    -- of all
    first_all : (k : ℕ) → length xs ≤ k → (due new_due : List ℕ) (old new : S) → AddsFirst k due new_due old new → AddsWhole bytes faults (flat_map f xs) due new_due old new
    first_all k h due new_due old new x = subst (λ l. AddsWhole bytes faults (flat_map f l) due new_due old new) (take_all k xs h) x

    -- where all texts are a text, and a fault is passed on
    pub first_passed : {T : Type 0} (text : List ℕ) → flat_map f xs ≡ text → (k : ℕ) (d : A) (piece : List ℕ) → k < length xs → piece ≡ f (get_or xs k d) → (due mid_due new_due : List ℕ) (old mid new : S) (r : Result T ExportFault) (y : ExportFault) →
        (z : ExportFault) × (r ≡ Err z) × (z ≡ y) → AddsFirst k due mid_due old mid → IsStopped (mid_due ++ piece) (bytes mid) (bytes new) (faults mid) (faults new) (last new) y → Adds bytes faults last text due new_due old new r
    first_passed text same k d piece h e due mid_due new_due old mid new r y z x s =
        subst (λ t. Adds bytes faults last t due new_due old new r) same (passed (flat_map f xs) due new_due old new r y z (first_stopped k d piece h e due mid_due old mid new y x s))

    -- and where all were added
    pub first_whole : (text : List ℕ) → flat_map f xs ≡ text → (k : ℕ) → length xs ≤ k → (due new_due : List ℕ) (old new : S) → AddsFirst k due new_due old new → AddsWhole bytes faults text due new_due old new
    first_whole text same k h due new_due old new x = subst (λ t. AddsWhole bytes faults t due new_due old new) same (first_all k h due new_due old new x)
