-- What a refused growth leaves. It shows nothing but that one was refused, so that all are the same value.
use Rattle.pb_base.specs.declared.refusal.NoMemory.{NoMemory}

-- the receipt of a refused growth
abbrev pub refused_growth : NoMemory
refused_growth = record { refused = tt }
