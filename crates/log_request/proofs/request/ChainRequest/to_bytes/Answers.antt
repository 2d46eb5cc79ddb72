use Rattle.std.proofs.Common.{arith}
use Rattle.byteorder.specs.Endian.{big_bytes}
use Rattle.log_request.specs.ChainRequests.{chain_request_text}
use Rattle.log_request.proofs.ChainRequestBytes.{four_parts}
use Rattle.log_request.proofs.request.ChainRequest.to_bytes.Goals as goal

pub returns-clause-text : goal.returns-clause-text
unfolding chain_request_text
returns-clause-text c =
    four_parts _ c.args.self.chain (big_bytes 4 c.args.self.first) (big_bytes 4 c.args.self.most) c.put.new.bytes c.put-2.new.bytes c.put-3.new.bytes c.put-4.new.bytes (omega arith) (omega arith)
    c.put.ensures.written c.put-2.ensures.written
    (rw c.to_be_bytes.ensures at c.put-3.ensures.written) (rw c.to_be_bytes-2.ensures at c.put-4.ensures.written)
