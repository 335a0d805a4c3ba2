-- Entries that are cut from the front of bytes.
use Rattle.label_model.specs.Files.{Entry}
use Rattle.label_file.specs.declared.front.Front.{Front}

-- the entry that was cut: its name and the bytes of its label
abbrev pub entry_at_front : Front → Entry
entry_at_front f = record { name = f.name.now; label = f.label.now }
