-- What is found in a list of items by a name.
use Rattle.std.proofs.Common.{◌≡◌, ℕ, Bool, true, false, cond, List, [], ◌∷◌, bytes_eq, Option, Some, None, option_map, refl, sym, ap, ◌∙◌, inl, inr, ⊎_elim, true≢false}
use Rattle.std.specs.Prelude.{IfSome, IsNone}
use Rattle.wf_model.specs.Lists.{IsIn}
use Rattle.wf_model.proofs.Lists.{same_bytes, bytes_same}
use Rattle.wf_model.specs.Grammar.{Grammar}
use Rattle.wf_model.specs.WellFormed.{IsWellFormed}
use Rattle.wf_model.specs.declared.event.Event.{Event}
use Rattle.wf_model.specs.Run.{IsRun}
use Rattle.wf_model.specs.Items.{Item, items}
use Rattle.wf_model.proofs.ItemNames.{item_of_name}
use Rattle.wf_flat.specs.Item.{item_named}

-- an item of the list with this name; or nothing, where no item of the list has it
abbrev pub IsFoundBy : List Item → List ℕ → Option Item → Type 0
IsFoundBy ts n None = (t : Item) → IsIn t ts → t.name ≡ n → ⊥
IsFoundBy ts n (Some t) = IsIn t ts × (t.name ≡ n)

-- so it is with the first item of a name
pub found_by : (ts : List Item) (n : List ℕ) → IsFoundBy ts n (item_named ts n)
found_by [] n = λ t h e. h
found_by (x ∷ ts) n = go (found_by ts n) (bytes_eq x.name n) refl
  where
    later : (o : Option Item) → IsFoundBy ts n o → (x.name ≡ n → ⊥) → IsFoundBy (x ∷ ts) n o
    later None f other = λ t h e. ⊎_elim (λ q. other (ap (λ (z : Item). z.name) (sym q) ∙ e)) (λ i. f t i e) h
    later (Some t) f other = (inr f.0, f.1)

    go : IsFoundBy ts n (item_named ts n) → (b : Bool) → bytes_eq x.name n ≡ b → IsFoundBy (x ∷ ts) n (cond b (Some x) (item_named ts n))
    go f true q = (inl refl, same_bytes x.name n q)
    go f false q = later (item_named ts n) f (λ e. true≢false (sym (bytes_same x.name n e) ∙ q))

-- the first item of a name, where there is one item of this name
pub named_found : (ts : List Item) (n : List ℕ) (t : Item) → ((s : Item) → IsIn s ts → s.name ≡ n → s ≡ t) → IsIn t ts → t.name ≡ n → item_named ts n ≡ Some t
named_found ts n t one h e = go (item_named ts n) (found_by ts n)
  where
    go : (o : Option Item) → IsFoundBy ts n o → o ≡ Some t
    go None f = absurd (f t h e)
    go (Some s) f = ap Some (one s f.0 f.1)

-- and none, where no item has it
pub named_none : (ts : List Item) (n : List ℕ) → ((t : Item) → IsIn t ts → t.name ≡ n → ⊥) → item_named ts n ≡ None
named_none ts n lacks = go (item_named ts n) (found_by ts n)
  where
    go : (o : Option Item) → IsFoundBy ts n o → o ≡ None
    go None f = refl
    go (Some s) f = absurd (lacks s f.0 f.1)

-- what was found by a name in a run is the first item of it
pub named_as : {A : Type 0} (g : Grammar) (e : List Event) → IsWellFormed g → IsRun g g.start e → (f : A → Item) (n : List ℕ) (r : Option A) → ((x : A) → (f x).name ≡ n) → IfSome r (λ x. IsIn (f x) (items g g.start e))
    → (IsNone r → (t : Item) → IsIn t (items g g.start e) → t.name ≡ n → ⊥) → item_named (items g g.start e) n ≡ option_map f r
named_as g e formed run f n (Some x) named found none =
    named_found (items g g.start e) n (f x) (λ s i q. item_of_name g g.start e formed run s (f x) i found (q ∙ sym (named x))) found (named x)
named_as g e formed run f n None named found none = named_none (items g g.start e) n (none refl)
