use Rattle.pyc_console.proofs.FirstBytes.{first_known}
use Rattle.pyc_console.proofs.disk.first_bytes.Goals as goal

pub returns-clause-first : goal.returns-clause-first
returns-clause-first g c =
    first_known (g.R.Read.remaining c.args.reader) 1048577 c.read_to_end.new.buf.items c.truncate.new.self.items
    (rw (c.take.ensures.limit, c.take.ensures.inner, c.new-bytes.ensures.items) at c.in_ok-read_to_end.ensures.bytes) c.truncate.ensures.items
