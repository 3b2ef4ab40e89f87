-- The worked sessions hold of the definitions, by computation.
-- Assumes nothing.
use mathlib.Core.Path.{refl}
use Rattle.rules.specs.Opened.{opened}
use Rattle.rules.specs.Entries.{run_over}
use Rattle.records.specs.BigEndian.{number_at}
use Rattle.records.specs.Records.{short, behind, write_record, read_record, grant_record, memory_record, of_kind, record_at}
use Rattle.lines.specs.Lines.{decimal_to, hex_digit, write_line, read_line, record_line}
use Rattle.session.specs.Effects.{pokes, entry_of}
use Rattle.runs.specs.Sessions.{decoded_from, decoded, entries_of, lines_of, last_line}
use Rattle.runs.specs.Examples.{ascii_from, writes, seen, must, ExamplesHold}

pub examples_hold : ExamplesHold
unfolding opened number_at short behind write_record read_record grant_record memory_record of_kind record_at decimal_to hex_digit write_line read_line record_line pokes entry_of decoded_from decoded entries_of run_over lines_of last_line ascii_from writes seen must
examples_hold = refl
