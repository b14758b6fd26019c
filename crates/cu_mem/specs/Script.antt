-- Which calls fail by a script: the words of the crate that has scripts.
pub use Rattle.cu_cells.specs.Script.{same_kind, on_key, matches, fails_by, LandsOnce, Progress, progress, has_stopped, fails, land, fate, counted, next, started, Raises}
