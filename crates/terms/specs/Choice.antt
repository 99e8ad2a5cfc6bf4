-- To be believed: a choice by a test, the library's own.
pub use Rattle.std.specs.Prelude.{if◌then◌else◌}
