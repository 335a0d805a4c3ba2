-- The families of commands of the program.
use Rattle.wf_stage.specs.Families.{Family, either}
use Rattle.cmd_describe.specs.Family.{describe_commands}
use Rattle.cmd_ingest.specs.Family.{ingest_commands}
use Rattle.cmd_ask.specs.Family.{ask_commands}
use Rattle.cmd_words.specs.Family.{words_commands}
use Rattle.cmd_explain.specs.Family.{explain_commands}
use Rattle.cmd_share.specs.Family.{share_commands}
use Rattle.cmd_decide.specs.Family.{decide_commands}
use Rattle.cmd_make.specs.Family.{make_commands}

-- all families, in the order in which they are asked for the words
abbrev pub families : Family
families =
    either describe_commands (
    either ingest_commands (
    either ask_commands (
    either words_commands (
    either explain_commands (
    either share_commands (
    either decide_commands
    make_commands))))))
