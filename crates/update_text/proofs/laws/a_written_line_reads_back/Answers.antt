use Rattle.update_text.proofs.Writing.{reads_back}
use Rattle.update_text.proofs.laws.a_written_line_reads_back.Goals as goal

pub returns : goal.returns
returns c = reads_back
