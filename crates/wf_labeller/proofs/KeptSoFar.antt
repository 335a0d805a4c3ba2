-- Entries that are kept one behind another.
use Rattle.std.proofs.Common.{◌≡◌, ℕ, ◌≤◌, List, [], ◌∷◌, ◌++◌, length, flat_map, refl, ap, sym, ◌∙◌, arith, append_assoc, append-nil, length-append}
use Rattle.std.specs.Prelude.{codes}
use Rattle.std.proofs.lemmas.List.Concat.{flat_map-append, flat_map_single}
use Rattle.std.proofs.lemmas.List.{map-id}
use Rattle.wf_model.specs.Items.{dotted}
use Rattle.label_model.specs.Files.{Entry}
use Rattle.wf_labeller.specs.Keeping.{Adds, HasMore}

-- behind what was kept come the parts of some entries, and these and the entries that are left are all
pub record IsKeptSoFar {P : Type 0} (parts_of : Entry → List P) (old new : List P) (left all : List Entry) : Type 0 where
  pub done : List Entry
  pub is : new ≡ old ++ flat_map parts_of done
  pub split : done ++ left ≡ all

module _ {P : Type 0} (parts_of : Entry → List P) (old : List P) (all : List Entry) where
  pub none_kept : IsKeptSoFar parts_of old old all all
  none_kept = record { done = []; is = sym (append-nil old); split = refl }

  -- the next entry is kept
  pub one_kept : (now new : List P) (x y : Entry) (left rest : List Entry) → IsKeptSoFar parts_of old now left all → left ≡ y ∷ rest → new ≡ now ++ parts_of x → x ≡ y → IsKeptSoFar parts_of old new rest all
  one_kept now new x y left rest k e q is = record {
    done = k.done ++ y ∷ [];
    is =
        q ∙ (ap (λ z. now ++ parts_of z) is ∙ (ap (λ z. z ++ parts_of y) k.is ∙ (append_assoc old (flat_map parts_of k.done) (parts_of y) ∙
        ap (λ z. old ++ z) (sym (flat_map-append parts_of k.done (y ∷ []) ∙ ap (λ z. flat_map parts_of k.done ++ z) (append-nil (parts_of y)))))));
    split = append_assoc k.done (y ∷ []) rest ∙ (ap (λ z. k.done ++ z) (sym e) ∙ k.split);
  }

  -- none is left
  pub all_kept : (new : List P) (left : List Entry) → IsKeptSoFar parts_of old new left all → left ≡ [] → Adds parts_of old new all
  all_kept new left k e = k.is ∙ ap (λ z. old ++ flat_map parts_of z) (sym (append-nil k.done) ∙ (ap (λ z. k.done ++ z) (sym e) ∙ k.split))

  pub some_kept : (new : List P) (left : List Entry) → IsKeptSoFar parts_of old new left all → HasMore old new
  some_kept new left k = (flat_map parts_of k.done, k.is)

module _ {P : Type 0} (old mid new : List P) where
  pub more_again : HasMore old mid → HasMore mid new → HasMore old new
  more_again a b = (a.0 ++ b.0, b.1 ∙ (ap (λ z. z ++ b.0) a.1 ∙ append_assoc old a.0 b.0))

  -- entries are kept, and then others
  pub adds_again : (parts_of : Entry → List P) (xs ys : List Entry) → Adds parts_of old mid xs → Adds parts_of mid new ys → Adds parts_of old new (xs ++ ys)
  adds_again parts_of xs ys a b =
      b ∙ (ap (λ z. z ++ flat_map parts_of ys) a ∙ (append_assoc old (flat_map parts_of xs) (flat_map parts_of ys) ∙ ap (λ z. old ++ z) (sym (flat_map-append parts_of xs ys))))

pub no_more : {P : Type 0} (old new : List P) → new ≡ old → HasMore old new
no_more old new e = ([], e ∙ sym (append-nil old))

-- a list that had no entries has those that are kept
pub listed : (old new entries : List Entry) → old ≡ [] → Adds (λ e. e ∷ []) old new entries → new ≡ entries
listed old new entries none adds = adds ∙ (ap (λ z. z ++ flat_map (λ e. e ∷ []) entries) none ∙ (flat_map_single (λ e. e) entries ∙ map-id entries))

-- an instance's name, a dot and a port's name have room
pub dotted_room : (a b : List ℕ) → length a ≤ 64 → length b ≤ 64 → length (dotted a b) ≤ 129
dotted_room a b h k = omega (arith, length-append (a ++ codes ".") b, length-append a (codes "."))
