use Rattle.std.proofs.Common.{◌∷◌, inl, refl}
use Rattle.pb_log.specs.Records.{IsReadable}
use Rattle.pb_log.proofs.laws.shut_logs_open.Goals as goal

pub returns : goal.returns
returns c file rs s bare =
    let readable : IsReadable file rs = inl (record {
      tail = 0 ∷ s.torn;
      is = s.is;
      shut = record { torn = s.torn; is = refl; bare = bare };
      short = s.short;
    }) in
    (readable, λ at d. d.unreadable rs readable)
