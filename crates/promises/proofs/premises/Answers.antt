use Rattle.table.proofs.Tables.{check-exactly}
use Rattle.promises.proofs.premises.Goals as goal

pub returns : goal.returns
returns c = record {
  ready = λ ws ps cs n e h k. let t = (check-exactly ws n).0 e in record {
    right = t.0;
    priorities = rw t.1 at h;
    chain = rw t.1 at k;
  };
  shared = λ ws j i p e h k. record { packet = p; in_range = e; left = h; right = k };
  obeyed = λ ws q p i w m h. record { within = w; matches = m; highest = h };
  first = λ test n i w e h. record { within = w; passes = e; skips = h };
}
