use Rattle.um_laws.proofs.SessionsLaws.{session_reads}
use Rattle.um_session.proofs.laws.a_session_reads_its_frames.Goals as goal

pub returns : goal.returns
returns c = session_reads
