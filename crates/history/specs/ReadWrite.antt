-- To be believed: source document 000, section 2.2, the read-write variable type for values of any type.

-- "the set Inv of invocations is the disjoint union ({Write} × V) ∪ {Read}"
pub data Invocation (Val : Type 0) : Type 0 where
  Write : Val → Invocation Val
  Read : Invocation Val

-- "the set Res of responses is {Ack} ∪ V": Ack is no value.
pub data Response (Val : Type 0) : Type 0 where
  Ack : Response Val
  value : Val → Response Val

-- "f(v, (Write, x)) = (x, Ack) and f(v, Read) = (v, v)"
unfoldable pub transition : {Val : Type 0} → Val → Invocation Val → Val × Response Val
transition v (Write x) = (x, Ack)
transition v Read = (v, value v)
