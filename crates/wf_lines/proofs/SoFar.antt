-- How far the lines of a file are taken, and what of this was put.
use Rattle.std.proofs.Common.{◌≡◌, ℕ, List, [], ◌∷◌, ◌++◌, ◌+◌, length, take, Option, Some, None, refl, sym, ap, ◌∙◌, subst, arith, append_assoc, append-nil}
use Rattle.std.proofs.lemmas.List.{take_all}
use Rattle.wf_io.specs.Told.{Appended}
use Rattle.wf_io.specs.Lines.{Line, FileLines, AtEnd, text_of}
use Rattle.wf_io.specs.Readers.{Reader, Lends, Ends}
use Rattle.wf_io.proofs.Appending.{begun_longer}
use Rattle.wf_lines.specs.LineStages.{LineEnds, AllTaken}
use Rattle.wf_lines.specs.Taking.{IsDue, IsBegun}
use Rattle.wf_lines.proofs.LineStages.{all_on}
use Rattle.wf_lines.proofs.Dues.{due_later, due_more}

-- a beginning of a text is one of each longer text
pub begun_of : (text whole more : List ℕ) (a b : Option (List ℕ)) → whole ≡ text ++ more → IsBegun text a b → IsBegun whole a b
begun_of text whole more a b is begun = let k = begun_longer begun.0 text more a b begun.1 in (k.0, subst (λ x. Appended (take k.0 x) a b) (sym is) k.1)

-- all of a text is a beginning of it
pub all_begun : (text : List ℕ) (a b : Option (List ℕ)) → Appended text a b → IsBegun text a b
all_begun text a b put = (length text, subst (λ x. Appended x a b) (sym (take_all (length text) text (omega arith))) put)

-- the first lines are taken, from one state to another; of their text a beginning was put, and the rest is due
pub record IsTakenSoFar {S E : Type 0} (ends : LineEnds E) (Takes : S → ℕ → List ℕ → S → List ℕ → Type 0) (Stops : S → ℕ → List ℕ → E → List ℕ → Type 0) (IsAt : S → Type 0) (s : S) (all left : FileLines) (rest : List ℕ) (old now : Option (List ℕ)) : Type 0 where
  pub state : S
  pub lines : List Line
  pub text : List ℕ
  pub split : all.lines ≡ lines ++ left.lines
  pub tail : left.tail ≡ all.tail
  pub taken : AllTaken ends Takes Stops s lines state text
  pub at : IsAt state
  pub due : IsDue text rest old now

module _ {S E : Type 0} (ends : LineEnds E) (Takes : S → ℕ → List ℕ → S → List ℕ → Type 0) (Stops : S → ℕ → List ℕ → E → List ℕ → Type 0) where
  -- nothing is taken yet
  pub none_taken : (IsAt : S → Type 0) (s : S) (all : FileLines) (due : List ℕ) (old : Option (List ℕ)) → IsAt s → due ≡ [] → IsTakenSoFar ends Takes Stops IsAt s all all due old old
  none_taken IsAt s all due old at none = record {
    state = s;
    lines = [];
    text = [];
    split = refl;
    tail = refl;
    taken = (refl, refl);
    at = at;
    due = record { done = []; put = nothing old; split = sym none };
  }
    where
      nothing : (o : Option (List ℕ)) → Appended [] o o
      nothing None = refl
      nothing (Some b) = ap Some (sym (append-nil b))

  module _ {IsAt : S → Type 0} (s : S) (all left : FileLines) (due : List ℕ) (old now : Option (List ℕ)) (far : IsTakenSoFar ends Takes Stops IsAt s all left due old now) where
    -- what was due was put, or some of it
    pub later_due : (later : List ℕ) (new : Option (List ℕ)) → IsDue due later now new → IsTakenSoFar ends Takes Stops IsAt s all left later old new
    later_due later new is = record { state = far.state; lines = far.lines; text = far.text; split = far.split; tail = far.tail; taken = far.taken; at = far.at; due = due_later far.text due later old now new far.due is }

    -- one line more is taken
    pub one_more : {IsAtNew : S → Type 0} (r : Reader) (next : FileLines) → Lends left r next → (q : S) (piece later : List ℕ) (new : Option (List ℕ)) → Takes far.state r.line r.held q piece → IsAtNew q → IsDue (due ++ piece) later now new → IsTakenSoFar ends Takes Stops IsAtNew s all next later old new
    one_more r next lends q piece later new takes at is =
        let here : AllTaken ends Takes Stops far.state (lends.first ∷ []) q (piece ++ []) = (q, piece, [], (lends.short, subst (λ n. Takes far.state n (text_of lends.first.raw) q piece) lends.number (subst (λ x. Takes far.state r.line x q piece) lends.text takes)), (refl, refl), refl) in
        let text : far.text ++ (piece ++ []) ≡ far.text ++ piece = ap (λ x. far.text ++ x) (append-nil piece) in
        record {
          state = q;
          lines = far.lines ++ lends.first ∷ [];
          text = far.text ++ piece;
          split = far.split ∙ (ap (λ x. far.lines ++ x) lends.left ∙ sym (append_assoc far.lines (lends.first ∷ []) next.lines));
          tail = lends.tail ∙ far.tail;
          taken = subst (AllTaken ends Takes Stops s (far.lines ++ lends.first ∷ []) q) text (all_on ends Takes Stops far.lines (lends.first ∷ []) s far.state q far.text (piece ++ []) far.taken here);
          at = at;
          due = due_later (far.text ++ piece) (due ++ piece) later old now new (due_more far.text due piece old now far.due) is;
        }

-- one line less is left
pub lent_length : (old new : FileLines) (r : Reader) (n : ℕ) → Lends old r new → n + length old.lines ≡ (n + 1) + length new.lines
lent_length old new r n lends = let e = ap length lends.left in omega (arith, e)

-- no line is left
pub all_counted : (left : FileLines) (total n : ℕ) → Ends left AtEnd → n + length left.lines ≡ total → n ≡ total
all_counted left total n ends count = let e : length left.lines ≡ 0 = ap length ends.0 in omega (arith, e, count)
