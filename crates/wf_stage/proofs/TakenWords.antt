-- Words that one of two families takes.
use Rattle.std.proofs.Common.{◌≡◌, Option, Some, None, refl, sym}
use Rattle.std.specs.Prelude.{◌↔◌}
use Rattle.std.proofs.lemmas.Option.{none-some, same_Some}
use Rattle.wf_stage.specs.declared.family.Either.{Either}
use Rattle.wf_stage.specs.declared.family.Either.TheVariants.{First, Other}
use Rattle.wf_stage.specs.Families.{command_of_either}

module _ {A B : Type 0} where
  -- words that the first family takes are its command
  pub first_takes : (a : Option A) (b : Option B) (c : Either A B) → (a ≡ None → ⊥) → command_of_either a b ≡ Some c → (d : A) × (a ≡ Some d) × (First d ≡ c)
  first_takes (Some d) b c t h = (d, refl, same_Some (First d) c h)
  first_takes None b c t h = absurd (t refl)

  -- words that it does not take are what they are in the other
  pub other_takes : (a : Option A) (b : Option B) (c : Either A B) → a ≡ None → command_of_either a b ≡ Some c → (d : B) × (b ≡ Some d) × (Other d ≡ c)
  other_takes (Some e) b c n h = absurd (none-some e (sym n))
  other_takes None (Some d) c n h = (d, refl, same_Some (Other d) c h)
  other_takes None None c n h = absurd (none-some c h)

  -- words are no command of two families exactly if they are none of the other, where the first does not take them
  pub none_takes : (a : Option A) (b : Option B) → a ≡ None → (b ≡ None) ↔ (command_of_either a b ≡ None)
  none_takes (Some e) b n = absurd (none-some e (sym n))
  none_takes None (Some d) n = (λ h. absurd (none-some d (sym h)), λ h. absurd (none-some (Other d) (sym h)))
  none_takes None None n = (λ h. refl, λ h. refl)

  -- words that the first family takes are a command of both
  pub some_takes : (a : Option A) (b : Option B) → (a ≡ None → ⊥) → command_of_either a b ≡ None → ⊥
  some_takes (Some d) b t h = none-some (First d) (sym h)
  some_takes None b t h = t refl

-- words are taken where the answer is not the one to words that are not
pub is_taken : {A U : Type 0} {a : Option A} → (U → ⊥) → (a ≡ None → U) → a ≡ None → ⊥
is_taken not from n = not (from n)
