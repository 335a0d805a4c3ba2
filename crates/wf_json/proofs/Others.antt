-- A member that is taken out of an object.
use Rattle.std.proofs.Common.{◌≡◌, ℕ, List, [], ◌∷◌, Bool, Some, String, Global, Ordering, Less, Equal, Greater, string_bytes, nat_cmp, is_eq, cond, refl, sym, ap, ◌∙◌}
use Rattle.std.specs.Prelude.{option_and_then}
use Rattle.std.proofs.lemmas.Map.Text.{is_eq-slice_cmp}
use Rattle.std.proofs.lemmas.Slice.Eq.{bytes_eq-Decides}
use Rattle.std.specs.BTreeMap.{is_at}
use Rattle.std.specs.Cmp.Lexicographic.{slice_cmp}
use Rattle.std.specs.Map.{remove_entry}
use Rattle.std.specs.Ordering.{match_ordering}
use Rattle.serde_json.specs.Data.{Data, null, boolean, number, string, array, object}
use Rattle.serde_json.specs.Find.{get, get_member, as_object}
use Rattle.serde_json.specs.View.{view, members_view}
use Rattle.serde_json.proofs.Views.{Entry, member_later}

-- the member of a name is one of the members
pub get_by_members : (name : List ℕ) (d : Data) → get name d ≡ option_and_then (get_member name) (as_object d)
get_by_members name null = refl
get_by_members name (boolean b) = refl
get_by_members name (number n) = refl
get_by_members name (string s) = refl
get_by_members name (array ds) = refl
get_by_members name (object ms) = refl

-- an entry that is taken out, or one of those before it
taken_or_kept : (q name : List ℕ) (e : Entry) (es rest : List Entry) (o : Ordering) → slice_cmp nat_cmp name (string_bytes e.0) ≡ o → (q ≡ name → ⊥) → get_member q (members_view rest) ≡ get_member q (members_view es)
    → get_member q (members_view (cond (is_eq o) es (e ∷ rest))) ≡ get_member q (members_view (e ∷ es))
taken_or_kept q name e es rest Less is other behind = ap (λ r. match_ordering (slice_cmp nat_cmp q (string_bytes e.0)) r (Some (view e.1)) r) behind
taken_or_kept q name e es rest Equal is other behind =
    let same = (bytes_eq-Decides name (string_bytes e.0)).0 (sym (is_eq-slice_cmp name (string_bytes e.0)) ∙ ap is_eq is) in
    sym (member_later q e es (λ h. other (h ∙ sym same)))
taken_or_kept q name e es rest Greater is other behind = ap (λ r. match_ordering (slice_cmp nat_cmp q (string_bytes e.0)) r (Some (view e.1)) r) behind

-- whether a key is a name
abbrev pub has_name : List ℕ → String Global → Bool
has_name name = is_at (λ k. slice_cmp nat_cmp name (string_bytes k))

-- without the entry of a name the others are the same
pub others_kept : (q name : List ℕ) (es : List Entry) → (q ≡ name → ⊥) → get_member q (members_view (remove_entry (has_name name) es)) ≡ get_member q (members_view es)
others_kept q name [] other = refl
others_kept q name (e ∷ es) other = taken_or_kept q name e es _ (slice_cmp nat_cmp name (string_bytes e.0)) refl other (others_kept q name es other)
