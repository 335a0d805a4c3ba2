-- Which instances are open, and which items are visible.
use Rattle.std.proofs.Common.{◌≡◌, ℕ, ◌<◌, Bool, false, ◌&&◌, List, [], map, length, get_or, Option, Some, None, refl, ap, sym, subst, ◌∙◌}
use Rattle.std.specs.Prelude.{◌==◌, ◌↔◌, IsTrue, IfSome, option_map}
use Rattle.wf_model.specs.Lists.{IsIn, some}
use Rattle.wf_model.specs.Grammar.{Grammar}
use Rattle.wf_model.specs.View.{View}
use Rattle.wf_model.specs.Run.{Instance, opens, seen_in}
use Rattle.wf_model.specs.Items.{IsMadeOpen, IsVisible}
use Rattle.wf_flat.specs.declared.item.Item.{Item as ItemHeld}
use Rattle.wf_flat.specs.Table.{Table, IsTableOf, names_in, events_of, no_instance}
use Rattle.wf_flat.specs.Graph.{Marks, MarkOpen, inst_at}
use Rattle.wf_flat.specs.Item.{named_item, IsItemWithin}
use Rattle.wf_flat.specs.Flat.{is_item_shown}
use Rattle.wf_flat.proofs.SeenNumbers.{opens_number, name_at}

-- flags that mark the open ones of those seen tell of each instance whether it is open
pub open_told : (g : Grammar) (t : Table) → IsTableOf g t → (u : View) (flags marks : List Bool) (seen : List ℕ) → Marks marks u → map (inst_at t.instances) seen ≡ seen_in g u g.start (events_of t) → ((c : ℕ) → IsIn c seen → c < length t.instances) → MarkOpen flags marks t.instances seen →
    (k : ℕ) → k < length t.instances → get_or flags k false ≡ opens u (seen_in g u g.start (events_of t)) (get_or (names_in t.instances) k [])
open_told g t run u flags marks seen mk told there h k low =
    h k
    ∙ (ap (λ b. some (λ c. c == k) seen && b) (sym (mk (get_or t.instances k no_instance).module.0))
    ∙ (sym (opens_number g t run u seen k low there)
    ∙ (ap (λ (l : List Instance). opens u l (get_or t.instances k no_instance).name) told
    ∙ ap (opens u (seen_in g u g.start (events_of t))) (sym (name_at g t run k low)))))

-- where flags tell of each instance whether it is open, the items that are shown are those that are visible
pub shown_visible : (g : Grammar) (t : Table) (u : View) (flags : List Bool) → ((k : ℕ) → k < length t.instances → get_or flags k false ≡ opens u (seen_in g u g.start (events_of t)) (get_or (names_in t.instances) k [])) →
    (name : List ℕ) (i : ItemHeld) → IsItemWithin (length t.instances) i → IsTrue (is_item_shown flags i.maker) ↔ IsVisible g u g.start (events_of t) (named_item (names_in t.instances) name i)
shown_visible g t u flags told name i w = by i.maker w.maker
  where
    by : (m : Option ℕ) → IfSome m (λ k. k < length t.instances) → IsTrue (is_item_shown flags m) ↔ IsMadeOpen g u g.start (events_of t) (option_map (λ k. get_or (names_in t.instances) k []) m)
    by None l = (λ h. record {}, λ h. refl)
    by (Some k) l = (λ h. subst IsTrue (told k l) h, λ h. subst IsTrue (sym (told k l)) h)
