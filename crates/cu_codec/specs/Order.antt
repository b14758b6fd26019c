-- Elements in the other byte order (Zarr v3, codec "bytes": the bytes of each element, in one of two orders).
pub use Rattle.cu_box.specs.Order.{IsSwapped, IsReordered}
