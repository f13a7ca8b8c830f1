-- The laws of the calls on products.
pub mod ExpressionLaws
