-- The report on a subject, by its place.
use Rattle.std.proofs.Common.{◌≡◌, ℕ, ◌<◌, Bool, true, false, List, [], map, length, Option, Some, None, bytes_eq, refl, ap, sym, ◌∙◌, arith}
use Rattle.std.specs.Prelude.{position}
use Rattle.std.specs.Option.{option_eq}
use Rattle.std.specs.List.{slice_get, position_or_len}
use Rattle.std.proofs.lemmas.List.Folds.{find_at}
use Rattle.std.proofs.lemmas.List.{length-map, get_or-map}
use Rattle.std.proofs.lemmas.Option.{slice_get-get_or, slice_get_past}
use Rattle.wf_names.proofs.Found.{place_through}
use Rattle.wf_model.specs.declared.event.Event.{Event}
use Rattle.wf_model.proofs.Lists.{same_bytes, bytes_same}
use Rattle.report_model.specs.Reports.{subject_of, about}
use Rattle.report_model.specs.Kept.{Kept, report_of, reports_of, kept_at}
use Rattle.wf_inbox.specs.Inboxes.{known_on}
use Rattle.wf_inbox.specs.Keeping.{subject_kept}
use Rattle.wf_inbox.proofs.Found.{at_place, no_place}

both : (p q : Bool) → (p ≡ true → q ≡ true) → (q ≡ true → p ≡ true) → p ≡ q
both true q f g = sym (f refl)
both false true f g = g refl
both false false f g = refl

bytes_flip : (a b : List ℕ) → bytes_eq a b ≡ bytes_eq b a
bytes_flip a b = both _ _ (λ e. bytes_same b a (sym (same_bytes a b e))) (λ e. bytes_same a b (sym (same_bytes b a e)))

pub name_flip : (a b : Option (List ℕ)) → option_eq bytes_eq a b ≡ option_eq bytes_eq b a
name_flip None None = refl
name_flip None (Some y) = refl
name_flip (Some x) None = refl
name_flip (Some x) (Some y) = bytes_flip x y

-- there are as many subjects as reports
pub same_length : (kept : List Kept) (names : List (Option (List ℕ))) → names ≡ map subject_kept kept → length names ≡ length kept
same_length kept names of = ap length of ∙ length-map kept subject_kept

module _ (x : Event) (kept : List Kept) (names : List (Option (List ℕ))) (of : names ≡ map subject_kept kept) where
  same_place : position_or_len (about x) (reports_of kept) ≡ position_or_len (option_eq bytes_eq (subject_of x)) names
  same_place =
      place_through (about x) report_of kept ∙ (ap (λ t. position_or_len t kept) (λ t k. name_flip (subject_kept k) (subject_of x) t) ∙
      (sym (place_through (option_eq bytes_eq (subject_of x)) subject_kept kept) ∙ ap (position_or_len (option_eq bytes_eq (subject_of x))) (sym of)))

  pub known_none : None ≡ position (option_eq bytes_eq (subject_of x)) names → known_on kept x ≡ None
  known_none e =
      let a = no_place (option_eq bytes_eq (subject_of x)) names e in
      let b : length (reports_of kept) ≡ length kept = length-map kept report_of in
      let c = same_length kept names of in
      let d = same_place in
      find_at (about x) (reports_of kept) ∙ slice_get_past (reports_of kept) (position_or_len (about x) (reports_of kept)) (omega arith)

  pub known_at : (i : ℕ) → Some i ≡ position (option_eq bytes_eq (subject_of x)) names → (i < length kept) × (known_on kept x ≡ Some (kept_at kept i).report)
  known_at i e =
      let a = at_place (option_eq bytes_eq (subject_of x)) names i e in
      let c = same_length kept names of in
      let l : i < length kept = let k = a.1 in omega arith in
      let b : length (reports_of kept) ≡ length kept = length-map kept report_of in
      let d : report_of (kept_at kept 0) ≡ report_of (kept_at kept 0) = refl in
      (l, find_at (about x) (reports_of kept) ∙ (ap (slice_get (reports_of kept)) (same_place ∙ sym a.0) ∙ (slice_get-get_or (reports_of kept) i (kept_at [] 0).report (omega arith) ∙ ap Some (get_or-map report_of kept i (kept_at [] 0) (kept_at [] 0).report l))))
