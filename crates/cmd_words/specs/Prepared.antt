-- What queries by words are answered from, and what is known of it.
use Rattle.std.specs.Prelude.{ℕ, ◌≤◌, List}
use Rattle.wf_model.specs.View.{View}
use Rattle.label_model.specs.Files.{Entry}
use Rattle.label_file.specs.Stored.{EntryHeld, AreHeldOf, IsStoreFor}
use Rattle.wf_decode.specs.Reading.{most_legs}
use Rattle.wf_words.specs.Answers.{IsWordByWords}
use Rattle.wf_words.specs.WordViews.{WordViewSeen, AreOfWordView}

-- the store is one for the grammar before lifting, and the room for decisions has as many legs as a decision goes
pub record IsReady (w : WordViewSeen) (held : List EntryHeld) (legs : ℕ) : Type 0 where
  pub store : IsStoreFor w.plain.grammar held
  pub room : most_legs w.plain.grammar ≤ legs

-- an automaton with the labels of two views, and what a store holds; a view and the entries of a label file
pub record WordsKnown : Type 0 where
  pub words : WordViewSeen
  pub held : List EntryHeld
  pub view : View
  pub entries : List Entry

-- the labels are those of the view, before and after lifting, and the store holds the entries
pub record AreOfView (k : WordsKnown) : Type 0 where
  pub words : AreOfWordView k.words k.view
  pub held : AreHeldOf k.words.plain.grammar k.entries k.held

-- a word answers two names by the automaton
abbrev pub IsToldBy : WordsKnown → List ℕ → List ℕ → List ℕ → Type 0
IsToldBy k = IsWordByWords k.words.plain.grammar k.view k.words.automaton k.entries
