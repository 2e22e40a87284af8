use Rattle.pb_decode.proofs.OneProgramOrFault.{read_alike}
use Rattle.pb_decode.proofs.reading.profiles_read_alike.Goals as goal

pub returns : goal.returns
returns c = read_alike
