-- How the lines of a chain are taken, one after the other.
use Rattle.std.proofs.Common.{◌≡◌, ◌⊎◌, ℕ, List, [], ◌∷◌, ◌++◌, drop, Option, Some, None, codes, refl, sym, ap, ◌∙◌, subst, inl, inr, ⊎_elim, append-nil}
use Rattle.std.proofs.lemmas.List.{append_cancel_left}
use Rattle.wf_model.proofs.Deciding.{Either, bytes_either}
use Rattle.wf_model.specs.WellFormed.{IsShortName}
use Rattle.wf_model.specs.Items.{IsItemName}
use Rattle.name_text.proofs.NamesOrNot.{short_name_either, item_name_either}
use Rattle.wf_io.specs.Lines.{Line, FileLines, Tail, AtEnd, Broken, LongFile}
use Rattle.wf_lines.specs.LineStages.{AllTaken, OfTail, OfLines, IsOneWay, IsClosedOneWay, ClosesOrGoesOn}
use Rattle.wf_lines.specs.BegunLines.{BeginsEach}
use Rattle.wf_lines.specs.Taking.{AreTaken, AreStopped, IsStoppedAs}
use Rattle.wf_lines.specs.declared.fault.LinesFault.{LinesFault}
use Rattle.wf_lines.specs.declared.fault.LinesFault.TheVariants.{Stopped, Halted}
use Rattle.wf_stage.specs.Stages.{IsRefusedOrWanting}
use Rattle.wf_reason.specs.declared.fault.LineWrong.{LineWrong}
use Rattle.wf_reason.specs.Faults.{wrong_end}
use Rattle.wf_lines.proofs.LineStages.{lines_on, lines_begin, closes_as, one_ending}
use Rattle.wf_lines.proofs.SomeEnding.{some_ending}
use Rattle.wf_message.specs.Endings.{End, Refused}
use Rattle.wf_stage.specs.Outcomes.{HasOneOutcome, HasOutcome}
use Rattle.wf_reason.specs.declared.turn.Turn.{Turn}
use Rattle.wf_reason.specs.declared.turn.Turn.TheVariants.{Item as ItemTurn, Instance as ViaTurn}
use Rattle.wf_reason.specs.ChainLines.{ChainLine, ItemLine, ViaLine, turn_behind, Says, SaysNothing}
use Rattle.wf_reason.specs.HandedIn.{HandedLine, chain_ends, TakesHanded, RefusesHanded, TellsLines, ChainStage, StopsLines}
use Rattle.wf_reason.specs.Taking.{NothingMade, MakesNothing, NeverStops}

-- each list of lines is one from which a line is taken in one way
abbrev pub Always : List HandedLine → Type 0
Always lines = Unit {0}

-- a line says one thing
says_once : (t : Turn) (text : List ℕ) (l k : ChainLine) → Says t text l → Says t text k → l ≡ k
says_once ItemTurn text (ItemLine a) (ItemLine b) h q = ap ItemLine (sym h.0 ∙ q.0)
says_once ItemTurn text (ItemLine a) (ViaLine b) h q = absurd q
says_once ItemTurn text (ViaLine a) k h q = absurd h
says_once ViaTurn text (ItemLine a) k h q = absurd h
says_once ViaTurn text (ViaLine a) (ItemLine b) h q = absurd q
says_once ViaTurn text (ViaLine a) (ViaLine b) h q = ap ViaLine (append_cancel_left (codes "via ") a b (sym h.0 ∙ q.0))

-- a line says something, or it has not the form of its turn
says_or_not : (t : Turn) (text : List ℕ) → ((l : ChainLine) × Says t text l) ⊎ SaysNothing t text
says_or_not ItemTurn text = by_name (item_name_either text)
  where
    by_name : Either (IsItemName text) → ((l : ChainLine) × Says ItemTurn text l) ⊎ SaysNothing ItemTurn text
    by_name (inl h) = inl (ItemLine text, (refl, h))
    by_name (inr not) = inr (λ l h. none l h)
      where
        none : (l : ChainLine) → Says ItemTurn text l → ⊥
        none (ItemLine name) h = not (subst IsItemName (sym h.0) h.1)
        none (ViaLine name) h = absurd h
says_or_not ViaTurn text = by_start (bytes_either text (codes "via " ++ drop 4 text)) (short_name_either (drop 4 text))
  where
    by_start : Either (text ≡ codes "via " ++ drop 4 text) → Either (IsShortName (drop 4 text)) → ((l : ChainLine) × Says ViaTurn text l) ⊎ SaysNothing ViaTurn text
    by_start (inl e) (inl h) = inl (ViaLine (drop 4 text), (e, h))
    by_start (inl e) (inr not) = inr (λ l h. none l h)
      where
        none : (l : ChainLine) → Says ViaTurn text l → ⊥
        none (ItemLine name) h = absurd h
        none (ViaLine name) h = not (subst IsShortName (sym (ap (drop 4) h.0)) h.1)
    by_start (inr not) s = inr (λ l h. none l h)
      where
        none : (l : ChainLine) → Says ViaTurn text l → ⊥
        none (ItemLine name) h = absurd h
        none (ViaLine name) h = not (h.0 ∙ ap (λ z. codes "via " ++ z) (sym (ap (drop 4) h.0)))

pub handed_one_way : IsOneWay Always TakesHanded RefusesHanded
handed_one_way = record {
  sound = λ s n x q p ok h. tt;
  taken = λ s n x q r p t ok h k. (
    h.2 ∙ (ap (λ (l : ChainLine). s ++ record { number = n; says = l } ∷ []) (says_once (turn_behind ItemTurn s) x h.0 k.0 h.1 k.1) ∙ sym k.2),
    h.3 ∙ sym k.3,
  );
  apart = λ s n x q p e t ok h k. k.0 h.0 h.1;
  stopped = λ s n x d e t r ok h k. (h.1 ∙ sym k.1, h.2 ∙ sym k.2);
}

pub handed_begin : BeginsEach Always TakesHanded RefusesHanded NothingMade
handed_begin = record {
  taken = λ p q t ok begun h. (t, sym (ap (λ z. z ++ t) begun));
  stopped = λ p e t ok begun h. (t, sym (ap (λ z. z ++ t) begun));
}

pub handed_closed : IsClosedOneWay Always MakesNothing NeverStops
handed_closed = record { finished = λ s p t ok h k. h ∙ sym k; apart = λ s p e t ok h k. k; stopped = λ s d e t r ok h k. absurd h }

-- lines that are taken make nothing
nothing_taken : (s q : List HandedLine) (ls : List Line) (text : List ℕ) → AllTaken chain_ends TakesHanded RefusesHanded s ls q text → text ≡ []
nothing_taken s q [] text h = h.1
nothing_taken s q (l ∷ ls) text h = h.5 ∙ (ap (λ z. z ++ h.2) h.3.1.3 ∙ nothing_taken h.0 q ls h.2 h.4)

-- nor do lines that end the program
nothing_stopped : (s : List HandedLine) (ls : List Line) (tail : Tail) (e : End) (text : List ℕ) → OfLines chain_ends TakesHanded RefusesHanded NeverStops s ls tail e text → text ≡ []
nothing_stopped s [] AtEnd e text h = absurd h
nothing_stopped s [] Broken e text h = h.1
nothing_stopped s [] (LongFile n) e text h = h.1
nothing_stopped s (l ∷ ls) tail e text (inl (inl h)) = h.2
nothing_stopped s (l ∷ ls) tail e text (inl (inr h)) = h.1.2
nothing_stopped s (l ∷ ls) tail e text (inr h) = h.5 ∙ (ap (λ z. z ++ h.2) h.3.1.3 ∙ nothing_stopped h.0 ls tail e h.2 h.4)

-- lines that were taken, or that stopped what takes them
abbrev pub AreTakenInto : (List HandedLine → Type 0) → FileLines → Type 0
AreTakenInto IsAt file = AreTaken (AllTaken chain_ends TakesHanded RefusesHanded [] file.lines) MakesNothing IsAt file.tail None None

pub lines_told : (IsAt : List HandedLine → Type 0) (file : FileLines) → AreTakenInto IsAt file → (lines : List HandedLine) × TellsLines file lines × IsAt lines
lines_told IsAt file h = (
  h.state,
  record { whole = h.whole; taken = subst (AllTaken chain_ends TakesHanded RefusesHanded [] file.lines h.state) (nothing_taken [] h.state file.lines h.text h.taken) h.taken },
  h.at,
)

abbrev pub AreStoppedAt : Option End → Type 0 → FileLines → Type 0
AreStoppedAt end Failed file =
    AreStopped (OfLines chain_ends TakesHanded RefusesHanded NeverStops [] file.lines file.tail) (OfLines chain_ends TakesHanded RefusesHanded (ClosesOrGoesOn MakesNothing NeverStops) [] file.lines file.tail) end Failed None None

pub lines_stop : (file : FileLines) (e : End) (Failed : Type 0) → AreStoppedAt (Some e) Failed file → StopsLines file e
lines_stop file e Failed h =
    let r = h.whole e refl in
    subst (OfLines chain_ends TakesHanded RefusesHanded NeverStops [] file.lines file.tail e) (nothing_stopped [] file.lines file.tail e r.0 r.1) r.1

-- a line that is refused ends the program
pub refused_stop : (f : LinesFault LineWrong) → IsStoppedAs (λ x. IsRefusedOrWanting (wrong_end x)) f
refused_stop (Stopped x) = tt
refused_stop (Halted h) = tt

-- whatever follows a whole file, it ends the program alike where its lines do
pub stops_chain : (file : FileLines) (Next : List HandedLine → End → List ℕ → Type 0) (e : End) → StopsLines file e → ChainStage file Next e []
stops_chain file Next e h = closes_as chain_ends TakesHanded RefusesHanded (λ lines d t. ⊥) Next (λ lines d t none. absurd none) file.tail file.lines [] e [] h

module _ (file : FileLines) (lines : List HandedLine) (is : TellsLines file lines) (Next : List HandedLine → End → List ℕ → Type 0) where
  -- a whole file is gone on from
  pub chain_on : (e : End) (t : List ℕ) → Next lines e t → ChainStage file Next e t
  chain_on e t h =
      let end : OfLines chain_ends TakesHanded RefusesHanded Next lines [] file.tail e t = subst (λ z. OfTail chain_ends TakesHanded RefusesHanded Next lines z e t) (sym is.whole) h in
      subst (λ ls. OfLines chain_ends TakesHanded RefusesHanded Next [] ls file.tail e t) (append-nil file.lines) (lines_on chain_ends TakesHanded RefusesHanded Next file.tail file.lines [] [] lines [] is.taken e t end)

  -- and in no other way
  pub chain_goes_on : (e : End) (t : List ℕ) → ChainStage file Next e t → Next lines e t
  chain_goes_on e t h =
      let here : OfLines chain_ends TakesHanded RefusesHanded Next [] (file.lines ++ []) file.tail e t = subst (λ ls. OfLines chain_ends TakesHanded RefusesHanded Next [] ls file.tail e t) (sym (append-nil file.lines)) h in
      let r = lines_begin chain_ends TakesHanded RefusesHanded Always handed_one_way Next file.tail file.lines [] [] lines [] tt is.taken e t here in
      subst (λ z. Next lines e z) (sym r.1) (subst (λ z. OfTail chain_ends TakesHanded RefusesHanded Next lines z e r.0) is.whole r.2)

-- CHAIN ends in one way, where what follows it does
pub one_chain : (file : FileLines) (Next : List HandedLine → End → List ℕ → Type 0) → ((lines : List HandedLine) → HasOneOutcome (Next lines)) → HasOneOutcome (ChainStage file Next)
one_chain file Next next d e t s p q = one_ending chain_ends TakesHanded RefusesHanded Always handed_one_way Next (λ lines a b x y ok h k. next lines a b x y h k) file.tail file.lines [] d e t s tt p q

-- and it ends, where what follows it does
pub some_chain : (file : FileLines) (Next : List HandedLine → End → List ℕ → Type 0) → ((lines : List HandedLine) → HasOutcome (Next lines)) → HasOutcome (ChainStage file Next)
some_chain file Next next = some_ending chain_ends TakesHanded RefusesHanded Next Always (λ s n x q p ok h. tt) each (λ s ok. next s) file.tail file.lines [] tt
  where
    each : (s : List HandedLine) (n : ℕ) (x : List ℕ) → Always s → ((q : List HandedLine) × (p : List ℕ) × TakesHanded s n x q p) ⊎ ((e : End) × (t : List ℕ) × RefusesHanded s n x e t)
    each s n x ok = ⊎_elim
        (λ h. inl (s ++ record { number = n; says = h.0 } ∷ [], [], (h.0, h.1, refl, refl)))
        (λ h. inr (Refused (codes "chain") (Some n) (codes "LineWrong"), [], (h, refl, refl)))
        (says_or_not (turn_behind ItemTurn s) x)
