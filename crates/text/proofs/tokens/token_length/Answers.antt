use Rattle.text.proofs.Bytes.{spans}
use Rattle.text.proofs.tokens.token_length.Goals as goal

pub returns : goal.returns
returns c = rw (c.unwrap_or.ensures, c.blank.ensures) (spans c.args.bytes.now)
