-- Texts that are hashed piece by piece.
use Rattle.std.proofs.Common.{◌≡◌, List, [], ℕ, sym, ap, ◌∙◌, ◌++◌, is_ok, if◌then◌else◌, OnOk, append_assoc, append-nil, subst}
use Rattle.std.specs.declared.result.Result.{Result}
use Rattle.std.specs.declared.result.Result.TheVariants.{Ok, Err}
use Rattle.sha2.specs.Hashers.{Holds256}
use Rattle.wf_json.specs.declared.hashed_text.HashedText.{HashedText}
use Rattle.wf_json.specs.Hashing.{IsHashed}
use Rattle.wf_json.specs.Writing.{Takes}

-- what was hashed with nothing gathered behind it is the text
pub all_hashed : (h : HashedText) (text : List ℕ) → Holds256 h.state text → h.gathered.items ≡ [] → IsHashed h text
all_hashed h text held empty = (text, held, sym (append-nil text) ∙ ap (λ l. text ++ l) (sym empty))

-- a piece that is gathered behind a text is taken
pub piece_gathered : {E : Type 0} (r : Result (Unit {0}) E) (old room new : HashedText) (piece : List ℕ) → ((text : List ℕ) → IsHashed old text → IsHashed room text) → room.state ≡ new.state
    → new.gathered.items ≡ (if is_ok r then room.gathered.items ++ piece else room.gathered.items) → OnOk r (Takes IsHashed old new piece)
piece_gathered (Ok u) old room new piece kept same items = record {
  taken = λ text h.
      let q = kept text h in
      (q.0, subst (λ s. Holds256 s q.0) same q.1, ap (λ t. t ++ piece) q.2 ∙ append_assoc q.0 room.gathered.items piece ∙ ap (λ l. q.0 ++ l) (sym items));
}
piece_gathered (Err e) old room new piece kept same items = tt
