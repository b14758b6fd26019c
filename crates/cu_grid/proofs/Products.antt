-- Products of sizes, for the crates above.
pub use Rattle.cu_shape.proofs.Products.{at_least_one-positive, size_within, product_within, at_least_one_same}
